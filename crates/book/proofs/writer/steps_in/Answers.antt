use Rattle.std.proofs.Common.{arith, ap, length}
use Rattle.book.proofs.Left.{next_read}
use Rattle.book.proofs.Counted.{steps_next, steps_none}
use Rattle.book.proofs.writer.steps_in.Goals as goal

pub loop-part-preserved : goal.loop-part-preserved
loop-part-preserved c =
    let next = next_read c.in-Some.ensures.steps c.entry_in.ensures in
    let left = steps_next next in
    let fewer = ap length next in
    record { bound = omega arith; sum = omega arith }

pub returns : goal.returns
returns c =
    let none = steps_none c.in-None.ensures.steps.0 in
    (omega arith, omega arith)
