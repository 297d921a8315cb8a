-- The pieces before the place are that one.
use Rattle.std.proofs.Common.{◌≡◌, ◌+◌, drop}
use Rattle.repeats.specs.Repeats.{leading}
use Rattle.repeats.proofs.leading.Given as goal

abbrev pub invariant-loop-number : goal.invariant-loop-number
invariant-loop-number g l = leading l.piece l.pieces ≡ l.number + leading l.piece (drop l.number l.pieces)
