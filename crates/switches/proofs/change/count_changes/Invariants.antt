-- At each step the changes before it are counted.
use Rattle.switches.proofs.Counting.{Counting}
use Rattle.switches.proofs.change.count_changes.Given as goal

abbrev pub invariant-loop-step : goal.invariant-loop-step
invariant-loop-step l = Counting l.rows l.from l.before l.number l.step
