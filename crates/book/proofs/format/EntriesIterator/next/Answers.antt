use Rattle.std.proofs.Common.{◌<◌, length, arith, rules}
use Rattle.book.proofs.Left.{left_in, none_left, next_left}
use Rattle.book.proofs.format.EntriesIterator.next.Goals as goal

pub returns-in_err-part-clause-steps : goal.returns-in_err-part-clause-steps
returns-in_err-part-clause-steps c =
    let none = none_left c.args.self.now.left.now c.in_err-part.ensures.cases in
    rw c.from_residual.ensures (none, none)

pub returns-clause-steps : goal.returns-clause-steps
returns-clause-steps c =
    let told = c.in_ok-part.ensures.cases in
    rw (told.0, told.1) (next_left c.args.self.now.left.now (omega (arith, told.2)))

pub returns-clause-goes : goal.returns-clause-goes
returns-clause-goes c =
    let told = c.in_ok-part.ensures.cases in
    let next = next_left c.args.self.now.left.now (omega (arith, told.2)) in
    let fewer : length (left_in c.in_ok-part.left.now) < length (left_in c.args.self.now.left.now) =
    rw (next, told.1) (omega arith) in
    search rules
