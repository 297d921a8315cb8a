use Rattle.std.proofs.Common.{sym, ◌∙◌}
use Rattle.switches.proofs.Checking.{checking_start, checking_same, checking_more, checking_short, checking_fails, checking_done}
use Rattle.switches.proofs.list.is_list_of.Goals as goal
use Rattle.switches.proofs.list.is_list_of.Goals.{then-sent-before+in-Some+else-from-step, else-sent-before}

pub loop-step-init : goal.loop-step-init
loop-step-init c = rw c.iter-entries.ensures.rest (checking_start c.args.rows.now c.args.list.now)

pub returns-in_default : goal.returns-in_default
returns-in_default c =
    checking_short c.loop-step.invariant c.loop-step-test.true c.if-sent-before.true c.in_default.ensures.steps.0

pub returns-then-from-step : goal.returns-then-from-step
returns-then-from-step c =
    checking_fails c.loop-step.invariant c.loop-step-test.true c.if-sent-before.true c.in-Some.ensures.steps
    (λ e. c.if-from-step.true (c.from.ensures ∙ e))

pub loop-step-preserved : goal.loop-step-preserved
loop-step-preserved c =
    elim c.if-sent-before.branch [
      | then-sent-before+in-Some+else-from-step w ↦
          rw (w.entries-is, w.before-is)
          (checking_more c.loop-step.invariant c.loop-step-test.true w.if-sent-before.true w.in-Some.ensures.steps
          (sym w.from.ensures ∙ w.if-from-step.false))
      | else-sent-before w ↦
          rw (w.entries-is, w.before-is) (checking_same c.loop-step.invariant c.loop-step-test.true w.if-sent-before.false)
    ]

pub returns : goal.returns
returns c =
    c.is_empty.ensures ∙ rw c.as_slice.ensures.value (checking_done c.loop-step.invariant c.loop-step-test.false)
