-- Settings that a group may have (01, 'Settings'): the tests behind refusals 1 and 2, and behind 25, 31 and 32 of a book (02,
-- f and g).
use Rattle.std.specs.Prelude.{Bool, not, ◌&&◌, List, [], ◌∷◌, ℕ, ◌/◌, ◌^◌, leb, eqb}
use Rattle.basics.specs.First.{CheckFor, ◌when◌}

-- n is 1 to 14
abbrev pub sections_fit : ℕ → Bool
sections_fit n = leb 1 n && leb n 14

-- the mask has no bit at n or above
abbrev pub mask_fits : ℕ → ℕ → Bool
mask_fits n mask = eqb (mask / 2 ^ n) 0

-- options are one byte, the spare byte of a book's entry: 1 is hold, and above 1 there are none (02, g)
abbrev pub options_fit : ℕ → Bool
options_fit options = leb options 1

abbrev pub hold_of : ℕ → Bool
hold_of options = eqb options 1

-- n first, then the mask, under the two answers that are refused with
abbrev pub settings_checks : {A : Type 0} → A → A → ℕ → ℕ → List (CheckFor A)
settings_checks first second n mask = (first when not (sections_fit n)) ∷ (second when not (mask_fits n mask)) ∷ []
