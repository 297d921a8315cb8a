use Rattle.book.specs.Format.{entries_left, entries_of}
use Rattle.book.proofs.Entries.{Taking}
use Rattle.book.proofs.read.Given as goal

abbrev pub invariant-loop-i : goal.invariant-loop-i
invariant-loop-i l =
    (goal.iterator-loop-i).can_next l.i-iterator
    × (goal.iterator-loop-i).is_finite l.i-iterator
    × Taking (entries_of l.book) l.entries (entries_left l.i-iterator.iter) l.i-iterator.count
