use Rattle.book.specs.Format.{entries_left}
use Rattle.book.proofs.Entries.{Walk}
use Rattle.book.proofs.reader.check_entries.Given as goal

abbrev pub invariant-loop-part : goal.invariant-loop-part
invariant-loop-part l = Walk l.book l.at (entries_left l.part-iterator)
