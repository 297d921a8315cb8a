-- At each place the steps behind it are settled.
use Rattle.explain.proofs.Settling.{Settling}
use Rattle.explain.proofs.filling.settle.Given as goal

abbrev pub invariant-loop-at : goal.invariant-loop-at
invariant-loop-at l = Settling l.idle l.fn.words l.words l.behind l.at
