-- a turn of the loop is a step of the walk
use Rattle.std.proofs.Common.{arith, ◌+◌, ◌*◌, ◌-◌, drop, length-drop}
use Rattle.std.proofs.lemmas.Result.{err_from_is_err_and}
use Rattle.basics.proofs.Refusals.{number_some}
use Rattle.book.specs.Format.{count_in}
use Rattle.book.proofs.Refusals.{headed}
use Rattle.book.proofs.Left.{next_read, whole_left}
use Rattle.book.proofs.Entries.{walk_start, walk_step, walk_refused, walk_left_over, walk_done}
use Rattle.book.proofs.reader.check_entries.Goals as goal

pub loop-part-init : goal.loop-part-init
loop-part-init c =
    let book = c.args.book.now in
    let head = headed book c.requires in
    let first = c.first_body-at.ensures in
    rw (
      c.into_iter-part-iterator.ensures.into_iter_gives,
      first,
      whole_left (count_in book) (2 + 12 * count_in book - 2) (drop 2 book) (omega arith)
          (simp length-drop (omega (arith, head.uncut))),
    )
    (walk_start book c.requires)

pub returns-in_err-check_entry : goal.returns-in_err-check_entry
returns-in_err-check_entry c =
    let p = err_from_is_err_and c.from_residual.result c.from_residual.ensures.1 in
    rw (p.1, p.2)
    (walk_refused c.loop-part.invariant (next_read c.in-Some.ensures.steps c.entry_in-e.ensures) _ c.in_err-check_entry.ensures
    (number_some c.in_err-check_entry.field-0.0))

pub loop-part-preserved : goal.loop-part-preserved
loop-part-preserved c =
    rw c.body_size-at.ensures (walk_step c.loop-part.invariant (next_read c.in-Some.ensures.steps c.entry_in-e.ensures) c.in_ok-check_entry.ensures)

pub returns-then-at-size : goal.returns-then-at-size
returns-then-at-size c = walk_left_over c.loop-part.invariant c.in-None.ensures.steps.0 c.if-at-size.true

pub returns : goal.returns
returns c = walk_done c.loop-part.invariant c.in-None.ensures.steps.0 c.if-at-size.false
