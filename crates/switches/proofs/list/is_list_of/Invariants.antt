-- At each step the entries so far are the changes before it.
use Rattle.switches.proofs.Checking.{Checking}
use Rattle.switches.proofs.list.is_list_of.Given as goal

abbrev pub invariant-loop-step : goal.invariant-loop-step
invariant-loop-step l = Checking l.rows l.list l.entries.rest.now l.before l.step
