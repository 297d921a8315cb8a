-- A test over the whole of a list; and the values of a function at 0, 1, 2, .., as a table has them.
use Rattle.std.specs.Prelude.{Bool, true, ◌&&◌, List, [], ◌∷◌, ℕ, zero, suc}

module _ {A : Type 0} where
  abbrev pub every : (A → Bool) → List A → Bool
  every test [] = true
  every test (x ∷ xs) = test x && every test xs

-- at i, i + 1, .., as many as n
abbrev pub values_from : ℕ → (ℕ → ℕ) → ℕ → List ℕ
values_from i f zero = []
values_from i f (suc n) = f i ∷ values_from (suc i) f n

abbrev pub values : (ℕ → ℕ) → ℕ → List ℕ
values f n = values_from 0 f n
