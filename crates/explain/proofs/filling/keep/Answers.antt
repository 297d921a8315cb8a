use Rattle.explain.specs.Trace.{start}
use Rattle.explain.proofs.Keeping.{keeping_start, loop_fit, sent_within, accepted_within, keeping_next}
use Rattle.explain.proofs.filling.keep.Goals as goal

pub loop-step-init : goal.loop-step-init
loop-step-init c =
    let a = c.args in
    rw c.start-possible.ensures
    (keeping_start a.hold a.capture.now (start a.s) a.conditions.now a.commands.now c.requires)

pub follow-possible-requires : goal.follow-possible-requires
follow-possible-requires c =
    let held = c.loop-step.invariant in
    (loop_fit held, sent_within held c.loop-step-test.true c.at-row.ensures)

pub conditions_kept-requires : goal.conditions_kept-requires
conditions_kept-requires c = sent_within c.loop-step.invariant c.loop-step-test.true c.at-row.ensures

pub command_kept-requires : goal.command_kept-requires
command_kept-requires c =
    let held = c.loop-step.invariant in
    let more = c.loop-step-test.true in (
      (loop_fit held).sent,
      accepted_within held more c.at-row.ensures c.follow-possible.ensures,
      sent_within held more c.at-row.ensures,
    )

pub loop-step-preserved : goal.loop-step-preserved
loop-step-preserved c =
    keeping_next c.loop-step.invariant c.loop-step-test.true c.at-row.ensures c.follow-possible.ensures
    c.conditions_kept.ensures c.command_kept.ensures
