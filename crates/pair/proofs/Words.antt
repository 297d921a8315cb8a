-- A word of bits: its rule is one test, computed over the sixteen places.
use mathlib.Core.Path.{◌≡◌, refl, ap, ◌∙◌}
use mathlib.Core.Bool.{Bool, true, false}
use Prim.Native.Nat.{ℕ, ◌<◌, ◌/◌, ◌%◌, ◌^◌}
use lib.Dec.{eqb}
use Rattle.std.specs.Prelude.{if◌then◌else◌}
use Rattle.basics.specs.Table.{values}
use Rattle.basics.proofs.Table.{same_values}

-- the bit at a place of a word
abbrev pub bit_in : ℕ → ℕ → ℕ
bit_in word place = word / 2 ^ place % 2

abbrev pub bit : Bool → ℕ
bit t = if t then 1 else 0

bit_back : (t : Bool) → eqb (bit t) 1 ≡ t
bit_back true = refl
bit_back false = refl

-- a word with a bit at each of sixteen places where a test holds
pub bit_in_lem : (test : ℕ → Bool) (word : ℕ) → values (bit_in word) 16 ≡ values (λ (k : ℕ). bit (test k)) 16
    → (place : ℕ) → place < 16 → eqb (bit_in word place) 1 ≡ test place
bit_in_lem test word rule place below =
    ap (λ (b : ℕ). eqb b 1) (same_values (bit_in word) (λ (k : ℕ). bit (test k)) 16 rule place below)
    ∙ bit_back (test place)
