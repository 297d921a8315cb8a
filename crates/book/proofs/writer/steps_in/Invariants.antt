use Rattle.std.proofs.Common.{◌≡◌, ◌≤◌, ◌+◌, ◌*◌, length}
use Rattle.book.specs.Format.{entries_left}
use Rattle.book.specs.Writer.{steps_of}
use Rattle.book.proofs.writer.steps_in.Given as goal

abbrev pub invariant-loop-part : goal.invariant-loop-part
invariant-loop-part l = record {
  bound : l.total + 65535 * length (entries_left l.part-iterator) ≤ 64 * 65535;
  sum : l.total + steps_of (entries_left l.part-iterator) ≡ steps_of (entries_left l.listed);
}
