-- Laws of digits: as many as are counted are the fewest that hold the number, those that the library writes are these, and
-- they are read back as the number.
use mathlib.Core.Path.{◌≡◌, refl, ap}
use mathlib.Core.Bool.{Bool, true, false}
use mathlib.Core.List.{List, [], ◌∷◌, ◌++◌}
use Prim.Native.Nat.{ℕ, zero, suc, ◌+◌, ◌*◌, ◌-◌, ◌/◌, ◌%◌, ◌^◌, ◌≤◌, ◌<◌}
use native.Mathlib.Nat.{pow-suc, pow-le-pow_right}
use native.Mathlib.Omega.{arith}
use lib.Dec.{ltb, lit<}
use lib.ListN.{length, length-append}
use borrow.Author.Tests.{ltb-true, ltb-false, lt-ltb, le-ltb}
use Rattle.io.specs.Digits.{hex_digit_ascii, last_digits, IsDigitCount}
use Rattle.page.specs.Digits.{digit_of, places_in, decimal, hexadecimal, value_of, number_from, number_in}

one_holds : (v : ℕ) → v < 10 → IsDigitCount 10 1 v 1
one_holds v h = (omega arith, omega arith, λ more. absurd (omega arith))

-- one digit more, where those of v / 10 are the fewest
one_more_holds : (p v : ℕ) → 10 ≤ v → IsDigitCount 10 1 (v / 10) p → IsDigitCount 10 1 v (suc p)
one_more_holds zero v h few = absurd (omega (arith, few.0))
one_more_holds (suc zero) v h few = (omega arith, omega (arith, few.1), λ more. h)
one_more_holds (suc (suc p)) v h few =
    let down : suc (suc p) - 1 ≡ suc p = omega arith in
    let down' : suc (suc (suc p)) - 1 ≡ suc (suc p) = omega arith in
    let large : 10 ^ suc p ≤ v / 10 = rw down at (few.2 (omega arith)) in
    let above : 10 ^ (suc (suc (suc p)) - 1) ≤ v = rw down' (omega (arith, large, pow-suc 10 (suc p))) in
    (omega arith, omega (arith, few.1, pow-suc 10 (suc (suc p))), λ more. above)

fewest_in : (f v : ℕ) → v < 10 ^ suc f → IsDigitCount 10 1 v (places_in f v)
fewest_in zero v h = one_holds v (omega arith)
fewest_in (suc f) v h =
    go (ltb v 10) refl (fewest_in f (v / 10) (omega (arith, pow-suc 10 (suc f))))
  where
    go : (t : Bool) → ltb v 10 ≡ t → IsDigitCount 10 1 (v / 10) (places_in f (v / 10)) → IsDigitCount 10 1 v (places_in (suc f) v)
    go true e rest = rw e (one_holds v (ltb-true v 10 e))
    go false e rest = rw e (one_more_holds (places_in f (v / 10)) v (ltb-false v 10 e) rest)

-- fewer do not hold it
fewest_least : (k m v : ℕ) → IsDigitCount 10 1 v k → IsDigitCount 10 1 v m → k < m → ⊥
fewest_least k m v few few' h =
    omega (arith, few.0, few.1, few'.2 (omega (arith, few.0)), pow-le-pow_right {n = 10} (lit< tt) {i = k} {j = m - 1} (omega arith))

fewest_one : (k m v : ℕ) → IsDigitCount 10 1 v k → IsDigitCount 10 1 v m → k ≡ m
fewest_one k m v few few' = go (ltb k m) (ltb m k) refl refl
  where
    go : (a b : Bool) → ltb k m ≡ a → ltb m k ≡ b → k ≡ m
    go true b e e' = absurd (fewest_least k m v few few' (ltb-true k m e))
    go false true e e' = absurd (fewest_least m k v few' few (ltb-true m k e'))
    go false false e e' =
        let above = ltb-false k m e in
        let below = ltb-false m k e' in
        omega arith

pub library_digits : (k v : ℕ) → v < 2 ^ 64 → IsDigitCount 10 1 v k → last_digits 10 k v ≡ decimal v
unfolding decimal
library_digits k v small few =
    ap (λ (m : ℕ). last_digits 10 m v) (fewest_one k (places_in 19 v) v few (fewest_in 19 v (omega arith)))

length_digits : (k v : ℕ) → length (last_digits 10 k v) ≡ k
length_digits zero v = refl
length_digits (suc k) v =
    let rest = length_digits k (v / 10) in
    let all = length-append (last_digits 10 k (v / 10)) (hex_digit_ascii (v % 10) ∷ []) in
    omega arith

pub decimal_few : (v : ℕ) → v < 2 ^ 64 → IsDigitCount 10 1 v (length (decimal v))
unfolding decimal
decimal_few v small = rw (length_digits (places_in 19 v) v) (fewest_in 19 v (omega arith))

-- a number below 10, 100, 1000, .. has at most 1, 2, 3, .. digits, and none has more than 20
places_below : (f m v : ℕ) → v < 10 ^ suc m → places_in f v ≤ suc m
places_below zero m v h = omega arith
places_below (suc f) zero v h = rw (lt-ltb v 10 (omega arith)) (omega arith)
places_below (suc f) (suc m) v h =
    go (ltb v 10) refl (places_below f m (v / 10) (omega (arith, pow-suc 10 (suc m))))
  where
    go : (t : Bool) → ltb v 10 ≡ t → places_in f (v / 10) ≤ suc m → places_in (suc f) v ≤ suc (suc m)
    go true e rest = rw e (omega arith)
    go false e rest = rw e (omega arith)

pub decimal_below : (m v : ℕ) → v < 10 ^ suc m → length (decimal v) ≤ suc m
unfolding decimal
decimal_below m v h = rw (length_digits (places_in 19 v) v) (places_below 19 m v h)

places_most : (f v : ℕ) → places_in f v ≤ suc f
places_most zero v = omega arith
places_most (suc f) v = go (ltb v 10) refl (places_most f (v / 10))
  where
    go : (t : Bool) → ltb v 10 ≡ t → places_in f (v / 10) ≤ suc f → places_in (suc f) v ≤ suc (suc f)
    go true e rest = rw e (omega arith)
    go false e rest = rw e (omega arith)

pub decimal_most : (v : ℕ) → length (decimal v) ≤ 20
unfolding decimal
decimal_most v = rw (length_digits (places_in 19 v) v) (places_most 19 v)

pub two_digits : (b high low : ℕ) → high ≡ digit_of (b / 16) → low ≡ digit_of (b % 16) → high ∷ low ∷ [] ≡ hexadecimal b
unfolding hexadecimal
two_digits b high low e e' = rw (e, e')

value_back : (d : ℕ) → d < 16 → value_of (digit_of d) ≡ d
value_back d h = go (ltb d 10) refl
  where
    go : (t : Bool) → ltb d 10 ≡ t → value_of (digit_of d) ≡ d
    go true e =
        let below = ltb-true d 10 e in
        rw (e, lt-ltb (48 + d) 58 (omega arith)) (omega arith)
    go false e =
        let above = ltb-false d 10 e in
        rw (e, le-ltb (55 + d) 58 (omega arith)) (omega arith)

glyph_digit : (d : ℕ) → d < 10 → hex_digit_ascii d ≡ digit_of d
glyph_digit d h = rw (lt-ltb d 10 h)

one_more : (base before : ℕ) (text : List ℕ) (digit : ℕ)
    → number_from base before (text ++ (digit ∷ [])) ≡ base * number_from base before text + value_of digit
one_more base before [] digit = refl
one_more base before (d ∷ text) digit = one_more base (base * before + value_of d) text digit

digits_back : (k v : ℕ) → v < 10 ^ k → number_in 10 (last_digits 10 k v) ≡ v
digits_back zero v h = omega arith
digits_back (suc k) v h =
    rw (
      one_more 10 0 (last_digits 10 k (v / 10)) (hex_digit_ascii (v % 10)),
      digits_back k (v / 10) (omega (arith, pow-suc 10 k)),
      glyph_digit (v % 10) (omega arith),
      value_back (v % 10) (omega arith),
    )
    (omega arith)

pub decimal_back : (v : ℕ) → v < 2 ^ 64 → number_in 10 (decimal v) ≡ v
unfolding decimal
decimal_back v h = digits_back (places_in 19 v) v (fewest_in 19 v (omega arith)).1

pub hexadecimal_back : (b : ℕ) → b < 256 → number_in 16 (hexadecimal b) ≡ b
unfolding hexadecimal
hexadecimal_back b h =
    let high = value_back (b / 16) (omega arith) in
    let low = value_back (b % 16) (omega arith) in
    rw (high, low) (omega arith)
