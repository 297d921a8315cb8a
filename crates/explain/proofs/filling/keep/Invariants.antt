-- At each step both tables have what is written of the steps before it.
use Rattle.std.proofs.Common.{length}
use Rattle.explain.proofs.Keeping.{Keeping}
use Rattle.explain.proofs.filling.keep.Given as goal

abbrev pub invariant-loop-step : goal.invariant-loop-step
invariant-loop-step l =
    Keeping l.hold l.capture (length l.fn.conditions) l.initial.possible l.possible l.conditions l.commands l.step
