-- Laws of conditions of which at most one is bad.
use mathlib.Core.Path.{◌≡◌, refl, sym, ap, subst, ◌∙◌}
use mathlib.Core.Bool.{true, false}
use mathlib.Core.List.{◌∷◌}
use mathlib.Core.Logic.{◌⊎◌, inl, inr, ⊎_elim}
use Prim.Native.Nat.{ℕ, zero, suc, ◌+◌, ◌≤◌, ◌<◌, zero-le}
use native.Mathlib.Nat.{add-zero, add-suc, suc-add, le_of_suc-le-suc, not-suc-le-zero}
use lib.Dec.{eqb}
use lib.ListN.{length, drop}
use borrow.Author.Tests.{le-leb}
use Rattle.request.specs.Order.{OneOf}
use Rattle.request.specs.declared.Request.{Request}
use Rattle.controller.specs.Rules.{no_request, condition, conditions_from}
use Rattle.controller.specs.Refusals.{conditions_fit}
use Rattle.controller.specs.Step.{protection}
use Rattle.explain.specs.Cause.{only}

pub only_length : (k c v : ℕ) → length (only k c v) ≡ k
only_length zero c v = refl
only_length (suc k) zero v = ap suc (only_length k 0 0)
only_length (suc k) (suc c) v = ap suc (only_length k c v)

pub only_fit : (k c v : ℕ) → v ≤ 2 → conditions_fit (only k c v) ≡ true
unfolding conditions_fit
only_fit zero c v h = refl
only_fit (suc k) zero v h = rw (le-leb v 2 h) (only_fit k 0 0 zero-le)
only_fit (suc k) (suc c) v h = only_fit k c v h

-- section 0 stands first
pub only_whole : (k c v : ℕ) →
    let conditions = only (suc k) c v in
    (protection conditions ∷ drop 1 conditions) ≡ conditions
only_whole k zero v = refl
only_whole k (suc c) v = refl

-- section 0 is failed only if it is the one
pub only_good : (k c v : ℕ) → (eqb v 2 ≡ false) ⊎ (1 ≤ c) → eqb (protection (only (suc k) c v)) 2 ≡ false
only_good k zero v (inl h) = h
only_good k zero v (inr h) = absurd (not-suc-le-zero h)
only_good k (suc c) v h = refl

module _ (mask : ℕ) where
  pub only_one : (k i c v : ℕ) (y : Request) → OneOf y (conditions_from mask i (only k c v))
      → (y ≡ no_request) ⊎ (y ≡ condition mask (i + c) v)
  only_one zero i c v y h = absurd h
  only_one (suc k) i zero v y (inl same) = inr (rw (add-zero i) same)
  only_one (suc k) i zero v y (inr among) = ⊎_elim inl inl (only_one k (suc i) 0 0 y among)
  only_one (suc k) i (suc c) v y (inl same) = inl same
  only_one (suc k) i (suc c) v y (inr among) =
      ⊎_elim inl (λ same. inr (rw (add-suc i c, ← suc-add i c) same)) (only_one k (suc i) c v y among)

  pub only_there : (k i c v : ℕ) → c < k → OneOf (condition mask (i + c) v) (conditions_from mask i (only k c v))
  only_there zero i c v h = absurd (not-suc-le-zero h)
  only_there (suc k) i zero v h = inl (ap (λ (at : ℕ). condition mask at v) (add-zero i))
  only_there (suc k) i (suc c) v h =
      let P : ℕ → Type 0 = λ at. OneOf (condition mask at v) (conditions_from mask (suc i) (only k c v)) in
      inr (subst P (suc-add i c ∙ sym (add-suc i c)) (only_there k (suc i) c v (le_of_suc-le-suc h)))
