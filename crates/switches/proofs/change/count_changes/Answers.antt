use Rattle.std.proofs.Common.{arith, rules}
use Rattle.switches.proofs.Walking.{at_start}
use Rattle.switches.proofs.Counting.{counting_few, counting_next}
use Rattle.switches.proofs.change.count_changes.Goals as goal

pub loop-step-init : goal.loop-step-init
loop-step-init c =
    record { at = at_start c.args.rows.now c.args.from c.requires c.last_sent-before.ensures; count = omega arith }

pub overflow_add-number : goal.overflow_add-number
overflow_add-number c =
    let few = counting_few c.loop-step.invariant in
    search rules

pub loop-step-preserved : goal.loop-step-preserved
loop-step-preserved c = rw c.from-number.ensures (counting_next c.loop-step.invariant c.loop-step-test.true)
