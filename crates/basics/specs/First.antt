-- Answers that are asked for in an order, as the paper's marks and refusals are: the first that applies is given, and
-- where none does another; for numbers that is 0.
use Rattle.std.specs.Prelude.{if◌then◌else◌, ◌≡◌, Bool, true, false, Result, Ok, Err, List, [], ◌∷◌, ℕ, zero, suc, ◌<◌}

infix 15 ◌when◌
-- an answer, and the test by which it applies
pub data CheckFor (A : Type 0) : Type 0 where
  ◌when◌ : A → Bool → CheckFor A

abbrev pub Check : Type 0
Check = CheckFor ℕ

module _ {A : Type 0} where
  abbrev pub first_or : A → List (CheckFor A) → A
  first_or none [] = none
  first_or none ((a when t) ∷ rest) = if t then a else first_or none rest

  -- the first that applies as an error
  abbrev pub first_error : List (CheckFor A) → Result (Unit {0}) A
  first_error [] = Ok tt
  first_error ((a when t) ∷ rest) = if t then Err a else first_error rest

  -- the outcome of the test at place i of the order; past its end a test that fails
  abbrev pub applies_at : List (CheckFor A) → ℕ → Bool
  applies_at [] i = false
  applies_at ((a when t) ∷ rest) zero = t
  applies_at ((a when t) ∷ rest) (suc i) = applies_at rest i

  -- the answer of the check at place i; past the end the other
  abbrev pub answer_or : A → List (CheckFor A) → ℕ → A
  answer_or none [] i = none
  answer_or none ((a when t) ∷ rest) zero = a
  answer_or none ((a when t) ∷ rest) (suc i) = answer_or none rest i

  -- the check at place i applies, and none before it does
  pub record FirstAt (checks : List (CheckFor A)) (i : ℕ) : Type 0 where
    pub applies : applies_at checks i ≡ true
    pub none_before : (j : ℕ) → j < i → applies_at checks j ≡ false

abbrev pub first_of : List Check → ℕ
first_of checks = first_or 0 checks

abbrev pub number_of : List Check → ℕ → ℕ
number_of checks i = answer_or 0 checks i
