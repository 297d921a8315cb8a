-- Laws of the first answer that applies. Numbers that count on from 1, as refusals 1 to 7 do, name the place of the check.
use mathlib.Core.Path.{◌≡◌, refl, sym, ◌∙◌}
use mathlib.Core.Bool.{Bool, true, false, not, ◌&&◌, and-eq-true_iff, false≢true, true≢false}
use mathlib.Core.List.{List, [], ◌∷◌, ◌++◌}
use mathlib.Core.Logic.{◌↔◌, ◌⊎◌, inl, inr, ⊎_elim}
use Prim.Native.Nat.{ℕ, zero, suc, ◌+◌, ◌<◌, ◌≤◌, zero-le, suc-le-suc}
use native.Mathlib.Nat.{add-zero, add-suc, suc-add, le_of_suc-le-suc, not-suc-le-zero}
use native.Mathlib.Omega.{arith}
use lib.Dec.{eqb}
use borrow.Author.Tests.{eqb-true, eqb-false, eq-eqb, not-true}
use Rattle.basics.specs.First.{CheckFor, Check, ◌when◌, first_or, applies_at, answer_or, FirstAt, first_of, number_of}

module _ {A : Type 0} where
  skip : {a : A} {i : ℕ} {rest : List (CheckFor A)} → FirstAt rest i → FirstAt ((a when false) ∷ rest) (suc i)
  skip {a} {i} {rest} f = record { applies = f.applies; none_before = before }
    where
      before : (j : ℕ) → j < suc i → applies_at ((a when false) ∷ rest) j ≡ false
      before zero h = refl
      before (suc j) h = f.none_before j (le_of_suc-le-suc h)

  unskip : {a : A} {i : ℕ} {t : Bool} {rest : List (CheckFor A)} → FirstAt ((a when t) ∷ rest) (suc i) → FirstAt rest i
  unskip f = record { applies = f.applies; none_before = λ j h. f.none_before (suc j) (suc-le-suc h) }

  -- the answer of the check that is the first to apply is given
  pub first_given : (none : A) (checks : List (CheckFor A)) (i : ℕ) → FirstAt checks i
      → first_or none checks ≡ answer_or none checks i
  first_given none [] i f = absurd (false≢true f.applies)
  first_given none ((a when true) ∷ rest) zero f = refl
  first_given none ((a when true) ∷ rest) (suc i) f = absurd (true≢false (f.none_before 0 (suc-le-suc zero-le)))
  first_given none ((a when false) ∷ rest) zero f = absurd (false≢true f.applies)
  first_given none ((a when false) ∷ rest) (suc i) f = first_given none rest i (unskip f)

  -- and what is given, if not the other, is the answer of such a check
  pub first_shown : (none : A) (checks : List (CheckFor A)) → (first_or none checks ≡ none → ⊥)
      → (i : ℕ) × FirstAt checks i × (first_or none checks ≡ answer_or none checks i)
  first_shown none [] some = absurd (some refl)
  first_shown none ((a when true) ∷ rest) some =
      (0, record { applies = refl; none_before = λ j h. absurd (not-suc-le-zero h) }, refl)
  first_shown none ((a when false) ∷ rest) some =
      let later = first_shown none rest some in (suc later.0, skip later.1, later.2)

  -- a kind of answer that none of the checks bears
  module _ (kind : A → Bool) where
    abbrev pub others : List (CheckFor A) → Bool
    others [] = true
    others ((a when t) ∷ rest) = not (kind a) && others rest

    pub others_both : (a : A) (rest : List (CheckFor A)) → not (kind a) && others rest ≡ true
        → (kind a ≡ false) × (others rest ≡ true)
    others_both a rest e =
        let both = (and-eq-true_iff (not (kind a)) (others rest)).0 e in (not-true (kind a) both.0, both.1)

    -- is never given, if the other is not of that kind either; and if it is, exactly where none applies
    pub never_given : (none : A) (checks : List (CheckFor A)) → kind none ≡ false → others checks ≡ true
        → kind (first_or none checks) ≡ false
    never_given none [] is named = is
    never_given none ((a when true) ∷ rest) is named = (others_both a rest named).0
    never_given none ((a when false) ∷ rest) is named = never_given none rest is (others_both a rest named).1

    pub none_of : (none : A) (checks : List (CheckFor A)) → kind none ≡ true → others checks ≡ true
        → (kind (first_or none checks) ≡ true) ↔ ((i : ℕ) → applies_at checks i ≡ false)
    none_of none [] is named = (λ e i. refl, λ h. is)
    none_of none ((a when true) ∷ rest) is named = (
      λ e. absurd (false≢true (sym (others_both a rest named).0 ∙ e)),
      λ h. absurd (true≢false (h 0)),
    )
    none_of none ((a when false) ∷ rest) is named =
        let ih = none_of none rest is (others_both a rest named).1 in (forward ih, λ h. ih.1 (λ i. h (suc i)))
      where
        forward : ((kind (first_or none rest) ≡ true) ↔ ((i : ℕ) → applies_at rest i ≡ false))
            → kind (first_or none rest) ≡ true → (i : ℕ) → applies_at ((a when false) ∷ rest) i ≡ false
        forward ih e zero = refl
        forward ih e (suc i) = ih.0 e i

-- the checks bear the numbers k, k + 1, and so on
abbrev pub CountedFrom : ℕ → List Check → Type 0
CountedFrom k [] = Unit {0}
CountedFrom k ((m when t) ∷ rest) = (m ≡ k) × CountedFrom (suc k) rest

-- the first number is 0, or not below the one that the checks start at
first_above : (k : ℕ) (checks : List Check) → CountedFrom k checks → (first_of checks ≡ 0) ⊎ (k ≤ first_of checks)
first_above k [] counted = inl refl
first_above k ((m when true) ∷ rest) counted = let e = counted.0 in inr (omega arith)
first_above k ((m when false) ∷ rest) counted =
    ⊎_elim inl (λ (h : suc k ≤ first_of rest). inr (omega arith)) (first_above (suc k) rest counted.1)

first_place : (k : ℕ) (checks : List Check) → CountedFrom k checks → 0 < k
    → (i : ℕ) → first_of checks ≡ k + i → FirstAt checks i
first_place k [] counted pos i e = absurd (omega arith)
first_place k ((m when true) ∷ rest) counted pos zero e =
    record { applies = refl; none_before = λ j h. absurd (not-suc-le-zero h) }
first_place k ((m when true) ∷ rest) counted pos (suc i) e = let c = counted.0 in absurd (omega arith)
first_place k ((m when false) ∷ rest) counted pos zero e =
    absurd
    (⊎_elim (λ (z : first_of rest ≡ 0). omega arith) (λ (h : suc k ≤ first_of rest). omega arith)
    (first_above (suc k) rest counted.1))
first_place k ((m when false) ∷ rest) counted pos (suc i) e =
    skip (first_place (suc k) rest counted.1 (suc-le-suc zero-le) i (e ∙ add-suc k i ∙ sym (suc-add k i)))

counted_at : (k : ℕ) (checks : List Check) → CountedFrom k checks → (i : ℕ) → applies_at checks i ≡ true
    → number_of checks i ≡ k + i
counted_at k [] counted i e = absurd (false≢true e)
counted_at k ((m when t) ∷ rest) counted zero e = counted.0 ∙ sym (add-zero k)
counted_at k ((m when t) ∷ rest) counted (suc i) e =
    counted_at (suc k) rest counted.1 i e ∙ suc-add k i ∙ sym (add-suc k i)

-- the number i + 1 is answered exactly where the check at place i applies and none before it does
pub first_exact : (checks : List Check) → CountedFrom 1 checks → (i : ℕ) → (first_of checks ≡ i + 1) ↔ FirstAt checks i
first_exact checks counted i = (
  λ e. first_place 1 checks counted (suc-le-suc zero-le) i (omega arith),
  λ f. first_given 0 checks i f ∙ counted_at 1 checks counted i f.applies ∙ omega arith,
)

-- none of the checks bears the number 0
abbrev pub numbered : List Check → Bool
numbered checks = others (λ (k : ℕ). eqb k 0) checks

-- then 0 is answered exactly where none applies
pub none_exact : (checks : List Check) → numbered checks ≡ true
    → (first_of checks ≡ 0) ↔ ((i : ℕ) → applies_at checks i ≡ false)
none_exact checks named =
    let zero-given = none_of (λ (k : ℕ). eqb k 0) 0 checks refl named in (
      λ e. zero-given.0 (eq-eqb (first_of checks) 0 e),
      λ h. eqb-true (first_of checks) 0 (zero-given.1 h),
    )

numbered_both : (m : ℕ) (rest : List Check) → numbered ((m when false) ∷ rest) ≡ true
    → (m ≡ 0 → ⊥) × (numbered rest ≡ true)
numbered_both m rest e =
    let both = others_both (λ (k : ℕ). eqb k 0) m rest e in (eqb-false m 0 both.0, both.1)

-- behind checks of which none applies, the first is that of the rest; else it stays what it was
pub first_behind : (checks rest : List Check) → numbered checks ≡ true → first_of checks ≡ 0
    → first_of (checks ++ rest) ≡ first_of rest
first_behind [] rest named e = refl
first_behind ((m when true) ∷ checks) rest named e =
    let pos = (numbered_both m checks named).0 in absurd (omega arith)
first_behind ((m when false) ∷ checks) rest named e =
    first_behind checks rest (numbered_both m checks named).1 e

pub none_both : (checks rest : List Check) → numbered checks ≡ true → first_of (checks ++ rest) ≡ 0
    → (first_of checks ≡ 0) × (first_of rest ≡ 0)
none_both [] rest named e = (refl, e)
none_both ((m when true) ∷ checks) rest named e =
    let pos = (numbered_both m checks named).0 in absurd (omega arith)
none_both ((m when false) ∷ checks) rest named e = none_both checks rest (numbered_both m checks named).1 e

pub first_before : (checks rest : List Check) → (first_of checks ≡ 0 → ⊥) → first_of (checks ++ rest) ≡ first_of checks
first_before [] rest some = absurd (some refl)
first_before ((m when true) ∷ checks) rest some = refl
first_before ((m when false) ∷ checks) rest some = first_before checks rest some

-- what is answered, if not 0, is the number of the first check that applies
pub first_applies : (checks : List Check) → (first_of checks ≡ 0 → ⊥)
    → (i : ℕ) × FirstAt checks i × (first_of checks ≡ number_of checks i)
first_applies = first_shown 0
