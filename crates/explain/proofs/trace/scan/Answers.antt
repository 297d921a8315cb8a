use Rattle.std.proofs.Common.{sym, ap, ◌∙◌}
use Rattle.explain.specs.Trace.{next}
use Rattle.explain.proofs.Walking.{walk_next, few_rows, walk_run}
use Rattle.explain.proofs.trace.scan.Goals as goal

pub passes-few-requires : goal.passes-few-requires
passes-few-requires c = few_rows c.loop-at.invariant c.repeated-run.ensures

pub loop-at-preserved-then-run-gt0 : goal.loop-at-preserved-then-run-gt0
loop-at-preserved-then-run-gt0 c =
    rw c.from.ensures
    (walk_run c.loop-at.invariant c.loop-at-test.true
    (c.next-possible.ensures ∙ ap (next c.loop-at.possible) c.at.ensures)
    (sym c.live.ensures ∙ c.if-not-live.false) c.repeated-run.ensures c.passes-few.ensures
    c.passed-possible.ensures)

pub loop-at-preserved : goal.loop-at-preserved
loop-at-preserved c =
    walk_next c.loop-at.invariant c.loop-at-test.true
    (c.next-possible.ensures ∙ ap (next c.loop-at.possible) c.at.ensures)
    (sym c.live.ensures ∙ c.if-not-live.false)
