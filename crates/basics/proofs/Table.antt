-- Tables. A test that is computed once over the whole of a list holds at each entry; and a table that computes to the
-- values of a function has them at each entry.
use mathlib.Core.Path.{◌≡◌, sym, ap, ◌∙◌}
use mathlib.Core.Bool.{Bool, true, and-eq-true_iff}
use mathlib.Core.List.{List, [], ◌∷◌, ◌++◌}
use Prim.Native.Nat.{ℕ, zero, suc, ◌+◌, ◌<◌}
use native.Mathlib.Nat.{add-zero, zero-add, add-suc, suc-add, le_of_suc-le-suc, not-suc-le-zero}
use lib.ListN.{length, get_or}
use Rattle.basics.specs.Table.{every, values_from, values}

module _ {A : Type 0} where
  pub at_entry : (test : A → Bool) (list : List A) (other : A) → every test list ≡ true
      → (k : ℕ) → k < length list → test (get_or list k other) ≡ true
  at_entry test [] other whole k h = absurd (not-suc-le-zero h)
  at_entry test (x ∷ xs) other whole zero h = ((and-eq-true_iff (test x) (every test xs)).0 whole).0
  at_entry test (x ∷ xs) other whole (suc k) h =
      at_entry test xs other ((and-eq-true_iff (test x) (every test xs)).0 whole).1 k (le_of_suc-le-suc h)

  pub every_joined : (test : A → Bool) (list list' : List A) → every test list ≡ true → every test list' ≡ true
      → every test (list ++ list') ≡ true
  every_joined test [] list' whole whole' = whole'
  every_joined test (x ∷ xs) list' whole whole' =
      let both = (and-eq-true_iff (test x) (every test xs)).0 whole in
      rw both.0 (every_joined test xs list' both.1 whole')

value_from : (f : ℕ → ℕ) (n i k : ℕ) → k < n → get_or (values_from i f n) k 0 ≡ f (i + k)
value_from f zero i k h = absurd (not-suc-le-zero h)
value_from f (suc n) i zero h = ap f (sym (add-zero i))
value_from f (suc n) i (suc k) h =
    value_from f n (suc i) k (le_of_suc-le-suc h) ∙ ap f (suc-add i k ∙ sym (add-suc i k))

pub entry_is : (f : ℕ → ℕ) (n k : ℕ) → k < n → get_or (values f n) k 0 ≡ f k
entry_is f n k h = value_from f n 0 k h ∙ ap f (zero-add k)

-- two functions that compute to the same values have the same value at each place
pub same_values : (f g : ℕ → ℕ) (n : ℕ) → values f n ≡ values g n → (k : ℕ) → k < n → f k ≡ g k
same_values f g n e k h = sym (entry_is f n k h) ∙ ap (λ (list : List ℕ). get_or list k 0) e ∙ entry_is g n k h
