use Rattle.std.proofs.Common.{◌≡◌}
use Rattle.basics.specs.First.{first_of}
use Rattle.book.specs.Format.{entries_left}
use Rattle.book.specs.Writer.{entries_faults}
use Rattle.book.proofs.writer.check_entries.Given as goal

abbrev pub invariant-loop-part : goal.invariant-loop-part
invariant-loop-part l =
    first_of (entries_faults (entries_left l.part-iterator)) ≡ first_of (entries_faults (entries_left l.captures))
