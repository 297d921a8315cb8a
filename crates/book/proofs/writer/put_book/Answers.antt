use Rattle.std.proofs.Common.{arith}
use lib.ListN.{length-set}
use Rattle.book.specs.Format.{contents_in}
use Rattle.book.proofs.Refusals.{writable}
use Rattle.book.proofs.Books.{book_written}
use Rattle.book.proofs.writer.put_book.Goals as goal

pub bounds-out-0 : goal.bounds-out-0
bounds-out-0 c = let w = writable (contents_in c.args.contents.now) _ _ c.requires in omega arith

pub bounds-out-1 : goal.bounds-out-1
bounds-out-1 c =
    let w = writable (contents_in c.args.contents.now) _ _ c.requires in simp length-set (omega arith)

pub returns : goal.returns
unfolding contents_in
returns c =
    book_written (contents_in c.args.contents.now) c.args.bodies.now c.args.out.now _ c.put_captures.ensures c.requires
