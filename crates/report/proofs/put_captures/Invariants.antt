-- At each turn what is put and the lines that are left are the table.
use Rattle.report.proofs.Walking.{Walk}
use Rattle.report.proofs.put_captures.Given as goal

abbrev pub invariant-loop-i : goal.invariant-loop-i
invariant-loop-i l = Walk l.book l.fn.page l.page l.i
