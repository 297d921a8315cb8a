-- What was seen and what is left give the answer.
use Rattle.std.proofs.Common.{◌≡◌, ◌&&◌, length}
use Rattle.std.specs.Slice.Iter.{iter_rest}
use Rattle.std.specs.Iterator.Adapters.{zip_first, zip_second}
use Rattle.std.specs.Str.{bytes_eq}
use Rattle.repeats.proofs.alike.Given as goal

abbrev pub invariant-loop-a : goal.invariant-loop-a
invariant-loop-a g l =
    (l.all && bytes_eq (iter_rest (zip_first l.a-iterator)) (iter_rest (zip_second l.a-iterator)) ≡ bytes_eq l.piece l.other)
    × (length (iter_rest (zip_first l.a-iterator)) ≡ length (iter_rest (zip_second l.a-iterator)))
