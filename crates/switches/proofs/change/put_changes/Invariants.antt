-- At each step the changes before it have been put.
use Rattle.switches.proofs.Putting.{Putting}
use Rattle.switches.proofs.change.put_changes.Given as goal

abbrev pub invariant-loop-step : goal.invariant-loop-step
invariant-loop-step l = Putting l.rows l.known l.initial.table l.table l.before l.number l.step
