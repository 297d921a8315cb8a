-- Numbers as text, in ASCII. The decimal digits are the kit's own, `last_digits` of `io`.
use Rattle.std.specs.Prelude.{if◌then◌else◌, List, [], ◌∷◌, ℕ, zero, suc, ◌+◌, ◌*◌, ◌-◌, ◌/◌, ◌%◌, ltb}
use Rattle.io.specs.Digits.{last_digits}

-- how many decimal digits v has: one, or one more than v / 10 has; counted up to k and one
abbrev pub places_in : ℕ → ℕ → ℕ
places_in zero v = 1
places_in (suc k) v = if ltb v 10 then 1 else suc (places_in k (v / 10))

-- a number of 64 bits has at most 20
unfoldable pub decimal : ℕ → List ℕ
decimal v = last_digits 10 (places_in 19 v) v

-- 0 to 9, and A to F; two of them, of a byte
abbrev pub digit_of : ℕ → ℕ
digit_of d = if ltb d 10 then 48 + d else 55 + d

unfoldable pub hexadecimal : ℕ → List ℕ
hexadecimal b = digit_of (b / 16) ∷ digit_of (b % 16) ∷ []

-- the other way: what a digit counts, and the number of a text of digits to a base, with what stands before it
abbrev pub value_of : ℕ → ℕ
value_of digit = if ltb digit 58 then digit - 48 else digit - 55

abbrev pub number_from : ℕ → ℕ → List ℕ → ℕ
number_from base before [] = before
number_from base before (digit ∷ rest) = number_from base (base * before + value_of digit) rest

abbrev pub number_in : ℕ → List ℕ → ℕ
number_in base text = number_from base 0 text
