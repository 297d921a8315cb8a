-- What is left to scan gives the verdict of the whole.
use Rattle.std.proofs.Common.{length, ◌-◌}
use Rattle.explain.proofs.Walking.{Walk}
use Rattle.explain.proofs.trace.scan.Given as goal

abbrev pub invariant-loop-at : goal.invariant-loop-at
invariant-loop-at l = Walk l.capture l.initial.possible l.possible l.at

abbrev pub decreases-loop-at : goal.decreases-loop-at
decreases-loop-at l = length l.capture - l.at
