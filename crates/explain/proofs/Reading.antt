-- What is written of a step, read back: the marks, the conditions and the command.
use mathlib.Core.Path.{◌≡◌, refl, ap, ◌∙◌}
use mathlib.Core.Bool.{Bool, true, false}
use mathlib.Core.List.{List, ◌∷◌}
use Prim.Native.Nat.{ℕ, zero, suc, ◌+◌, ◌*◌, ◌/◌, ◌%◌, ◌^◌, ◌≤◌, ◌<◌, zero-le}
use native.Mathlib.Nat.{le_of_suc-le-suc, not-suc-le-zero, mul-le-mul, pow-le-pow_right, pow-succ', mul-one, mul_left_comm}
use native.Mathlib.Numerals.{add-one}
use native.Mathlib.Omega.{arith}
use lib.Dec.{lit<}
use borrow.Author.Tests.{lt-ltb}
use Rattle.explain.specs.Cause.{only}
use Rattle.explain.specs.Causes.{conditions_in, no_other_bit}
use Rattle.explain.specs.Filling.{heard_place, with_marks, heard_in, failed_in, unmarked}

-- a word whose sections are all good
good_word : (k : ℕ) → conditions_in k 0 ≡ only k 0 0
good_word zero = refl
good_word (suc k) = ap (λ (l : List ℕ). 0 ∷ l) (good_word k)

-- and one that says v of section c
pub bad_word : (k c v : ℕ) → c < k → v < 4 → conditions_in k (v * 4 ^ c) ≡ only k c v
bad_word zero c v inside small = absurd (not-suc-le-zero inside)
bad_word (suc k) zero v inside small =
    let whole : v * 4 ^ 0 ≡ v = mul-one v in
    let low : v % 4 ≡ v = omega arith in
    let rest : v / 4 ≡ 0 = omega arith in
    ap (conditions_in (suc k)) whole ∙ rw (low, rest) (ap (λ (l : List ℕ). v ∷ l) (good_word k))
bad_word (suc k) (suc c) v inside small =
    let p = v * 4 ^ c in
    let up : v * 4 ^ suc c ≡ 4 * p = ap (λ (q : ℕ). v * q) (pow-succ' 4 c) ∙ mul_left_comm v 4 (4 ^ c) in
    let low : 4 * p % 4 ≡ 0 = omega arith in
    let rest : 4 * p / 4 ≡ p = omega arith in
    ap (conditions_in (suc k)) up
    ∙ rw (low, rest) (ap (λ (l : List ℕ). 0 ∷ l) (bad_word k c v (le_of_suc-le-suc inside) small))

-- it has no other bit
pub bad_word_fits : (n c v : ℕ) → c ≤ n → v ≤ 2 → no_other_bit n (v * 4 ^ c) ≡ true
bad_word_fits n c v inside small =
    let most : 4 ^ c ≤ 4 ^ n = pow-le-pow_right (lit< tt) inside in
    let h = mul-le-mul small most in
    let some : 4 ^ 0 ≤ 4 ^ n = pow-le-pow_right (lit< tt) zero-le in
    let up : 4 ^ (n + 1) ≡ 4 * 4 ^ n = ap (λ (k : ℕ). 4 ^ k) (add-one n) ∙ pow-succ' 4 n in
    lt-ltb (v * 4 ^ c) (4 ^ (n + 1)) (omega arith)

-- the marks, and the word without them
module _ (word : ℕ) (low : word < heard_place) where
  pub heard_back : (heard failed : Bool) → heard_in (with_marks word heard failed) ≡ heard
  heard_back true true = let q : (word + heard_place + 0x80000000) / heard_place % 2 ≡ 1 = omega arith in rw q
  heard_back true false = let q : (word + heard_place + 0) / heard_place % 2 ≡ 1 = omega arith in rw q
  heard_back false true = let q : (word + 0 + 0x80000000) / heard_place % 2 ≡ 0 = omega arith in rw q
  heard_back false false = let q : (word + 0 + 0) / heard_place % 2 ≡ 0 = omega arith in rw q

  pub failed_back_lem : (heard failed : Bool) → failed_in (with_marks word heard failed) ≡ failed
  failed_back_lem true true = let q : (word + heard_place + 0x80000000) / 0x80000000 ≡ 1 = omega arith in rw q
  failed_back_lem true false = let q : (word + heard_place + 0) / 0x80000000 ≡ 0 = omega arith in rw q
  failed_back_lem false true = let q : (word + 0 + 0x80000000) / 0x80000000 ≡ 1 = omega arith in rw q
  failed_back_lem false false = let q : (word + 0 + 0) / 0x80000000 ≡ 0 = omega arith in rw q

  pub word_back : (heard failed : Bool) → unmarked (with_marks word heard failed) ≡ word
  word_back true true = omega arith
  word_back true false = omega arith
  word_back false true = omega arith
  word_back false false = omega arith

pub command_back : (k c : ℕ) → c < 256 → ((256 * k + c) / 256 ≡ k) × ((256 * k + c) % 256 ≡ c)
command_back k c small = (omega arith, omega arith)
