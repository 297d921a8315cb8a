use Rattle.std.proofs.Common.{rules}
use Rattle.switches.proofs.Walking.{at_start}
use Rattle.switches.proofs.Putting.{putting_start, putting_few, putting_room, putting_more, putting_same}
use Rattle.switches.proofs.change.put_changes.Goals as goal
use Rattle.switches.proofs.change.put_changes.Goals.{then-sent-before, else-sent-before}

pub loop-step-init : goal.loop-step-init
loop-step-init c = putting_start c.requires (at_start c.args.rows.now c.args.from c.requires.inside c.last_sent-before.ensures)

pub bounds-table-number : goal.bounds-table-number
bounds-table-number c = putting_room c.loop-step.invariant c.loop-step-test.true c.if-sent-before.true

pub offset_bounds-table-number : goal.offset_bounds-table-number
offset_bounds-table-number c =
    let few = putting_few c.loop-step.invariant in
    search rules

pub overflow_add-number : goal.overflow_add-number
overflow_add-number c =
    let few = putting_few c.loop-step.invariant in
    search rules

pub loop-step-preserved : goal.loop-step-preserved
loop-step-preserved c =
    elim c.if-sent-before.branch [
      | then-sent-before w ↦
          rw (w.table-is, w.number-is) (putting_more c.loop-step.invariant c.loop-step-test.true w.if-sent-before.true)
      | else-sent-before w ↦
          rw (w.table-is, w.number-is) (putting_same c.loop-step.invariant c.loop-step-test.true w.if-sent-before.false)
    ]
