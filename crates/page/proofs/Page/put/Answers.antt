-- `put` meets its contract.
use mathlib.Core.Path.{refl, sym, ◌∙◌}
use Prim.Native.Nat.{◌+◌, ◌<◌}
use native.Mathlib.Omega.{arith}
use lib.ListN.{length}
use borrow.Author.Tests.{leb-true, leb-false}
use Rattle.page.proofs.Texts.{end_put, text_filled, text_dropped, end_kept}
use Rattle.page.proofs.Page.put.Goals as goal

pub returns-then-has_room : goal.returns-then-has_room
returns-then-has_room c =
    let page = c.args.self.now in
    let text = c.args.text.now in
    let fits = leb-true (page.at + length text) (length page.bytes.now) (sym c.has_room.ensures ∙ c.if-has_room.true) in
    record {
      place = sym (end_put page.bytes.now page.at text fits);
      page = text_filled page.bytes.now page.at text fits _ _ (omega arith) c.copy_from_slice.ensures.after;
      same = refl;
    }

pub returns-else-has_room : goal.returns-else-has_room
returns-else-has_room c =
    let page = c.args.self.now in
    let text = c.args.text.now in
    let none : length page.bytes.now < page.at + length text =
    leb-false (page.at + length text) (length page.bytes.now) (sym c.has_room.ensures ∙ c.if-has_room.false) in
    record {
      place = sym (end_kept page.bytes.now page.at text none);
      page = sym (text_dropped page.bytes.now page.at text none);
      same = refl;
    }
