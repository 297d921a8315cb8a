use Rattle.book.specs.Format.{contents_in, entries_left}
use Rattle.book.proofs.Filling.{Filling}
use Rattle.book.proofs.writer.put_captures.Given as goal

abbrev pub invariant-loop-i : goal.invariant-loop-i
invariant-loop-i l =
    (goal.iterator-loop-i).can_next l.i-iterator
    × (goal.iterator-loop-i).is_finite l.i-iterator
    × Filling (contents_in l.contents) l.bodies l.initial.out l.out l.at l.left (entries_left l.i-iterator.iter) l.i-iterator.count
