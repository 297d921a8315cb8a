use Rattle.std.proofs.Common.{◌≡◌, ◌∷◌, length, drop}
use Rattle.controller.specs.Asking.{Ranked}
use Rattle.controller.proofs.local.section_ranks.Given as goal

abbrev pub invariant-loop-c : goal.invariant-loop-c
invariant-loop-c l =
    Ranked l.mask (l.protection ∷ drop 1 l.conditions) l.last l.ranks l.c l.past_last
    × (length l.ranks ≡ 16)
