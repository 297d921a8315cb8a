-- Lists are alike exactly if they are equal.
use mathlib.Core.Path.{◌≡◌, refl, ap, ◌∙◌}
use mathlib.Core.Bool.{true, and-eq-true_iff, false≢true}
use mathlib.Core.List.{List, [], ◌∷◌}
use Prim.Native.Nat.{ℕ}
use lib.Dec.{eqb}
use borrow.Author.Tests.{eqb-true, eq-eqb}
use Rattle.switches.specs.Extend.{alike}

pub alike_equal : (xs ys : List ℕ) → alike xs ys ≡ true → xs ≡ ys
alike_equal [] [] e = refl
alike_equal (x ∷ xs) (y ∷ ys) e =
    let both = (and-eq-true_iff (eqb x y) (alike xs ys)).0 e in
    ap (λ (k : ℕ). k ∷ xs) (eqb-true x y both.0) ∙ ap (λ (l : List ℕ). y ∷ l) (alike_equal xs ys both.1)
alike_equal [] (y ∷ ys) e = absurd (false≢true e)
alike_equal (x ∷ xs) [] e = absurd (false≢true e)

pub alike_self : (xs : List ℕ) → alike xs xs ≡ true
alike_self [] = refl
alike_self (x ∷ xs) = rw (eq-eqb x x refl) (alike_self xs)
