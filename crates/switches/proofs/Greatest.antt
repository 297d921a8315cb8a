-- The last change is the greatest that is listed and not above the step.
use mathlib.Core.Path.{◌≡◌, refl, sym, ap, ◌∙◌}
use mathlib.Core.Bool.{Bool, true, false, not}
use mathlib.Core.List.{List, [], ◌∷◌}
use mathlib.Core.Logic.{◌↔◌, ⊎_elim}
use Prim.Native.Nat.{ℕ, ◌+◌, ◌-◌, ◌≤◌, ◌<◌}
use native.Mathlib.Omega.{arith}
use lib.Dec.{eqb}
use lib.ListN.{length, get_or}
use borrow.Author.Tests.{eqb-true, eqb-false, not-false}
use Rattle.std.proofs.lemmas.Bool.{cases_lt}
use Rattle.basics.specs.First.{◌when◌, first_of}
use Rattle.basics.proofs.First.{none_both, none_exact}
use Rattle.switches.specs.Changes.{below◌such_that◌, sent_in, changed, changes, Stands}
use Rattle.switches.specs.Extend.{steps_faults, alike}
use Rattle.switches.specs.LastChange.{look_faults, Looked, last_of, looking}
use Rattle.switches.proofs.Alike.{alike_equal}
use Rattle.switches.proofs.Below.{below_in, below_all, below_rising}
use Rattle.switches.proofs.Looked.{last_none, last_some}
use Rattle.switches.proofs.Refusals.{Walks, steps_walk}

module _ (bytes list : List ℕ) (step : ℕ) where
  abbrev test : ℕ → Bool
  test = changed (sent_in bytes)

  abbrev passing : List ℕ
  passing = below (step + 1) such_that test

  pub record Taken : Type 0 where
    pub walks : Walks bytes (step + 1)
    pub theirs : list ≡ changes (sent_in bytes)
    pub answer : looking bytes list step ≡ last_of passing

  pub taken : (looking bytes list step).refusal ≡ 0 → Taken
  unfolding looking
  taken e = go (eqb (first_of (look_faults bytes list step)) 0) refl
    where
      go : (t : Bool) → eqb (first_of (look_faults bytes list step)) 0 ≡ t → Taken
      go true z =
          let parts =
          none_both (steps_faults bytes (step + 1)) ((16 when not (alike list (changes (sent_in bytes)))) ∷ []) refl
          (eqb-true (first_of (look_faults bytes list step)) 0 z) in
          let same = (none_exact ((16 when not (alike list (changes (sent_in bytes)))) ∷ []) refl).0 parts.1 0 in
          record {
            walks = steps_walk bytes (step + 1) parts.0;
            theirs =
                alike_equal list (changes (sent_in bytes)) (not-false (alike list (changes (sent_in bytes))) same);
            answer = rw z;
          }
      go false z = absurd (eqb-false (first_of (look_faults bytes list step)) 0 z (rw z at e))

  module _ (t : Taken) where
    -- what is listed up to and with the step stands among the changes up to there, and these are listed
    down : (c : ℕ) → Stands c list → c ≤ step → Stands c passing
    down c s h =
        let all : Stands c (changes (sent_in bytes)) = rw (← t.theirs) s in
        let in_all = below_in test (length (sent_in bytes)) all.0 all.1 in
        below_all test (step + 1) c (omega arith) (ap test (sym all.2) ∙ in_all.1)

    up : (c : ℕ) → Stands c passing → Stands c list × (c ≤ step)
    up c s =
        let in-passing = below_in test (step + 1) s.0 s.1 in
        let e = s.2 in
        let inside = t.walks.inside in
        let low : c < step + 1 = omega (arith, in-passing.0) in (
          rw t.theirs (below_all test (length (sent_in bytes)) c (omega arith) (ap test (sym e) ∙ in-passing.1)),
          omega arith,
        )

    last : (length passing ≡ 0 → ⊥) →
        let c = get_or passing (length passing - 1) 0 in
        Stands c list × (c ≤ step) × ((d : ℕ) → Stands d list → d ≤ step → d ≤ c)
    last some =
        let here : Stands (get_or passing (length passing - 1) 0) passing = (length passing - 1, omega arith, refl) in
        let found = up (get_or passing (length passing - 1) 0) here in (
          found.0,
          found.1,
          λ d s h.
              let below-it = down d s h in
              let e = below-it.2 in
              ⊎_elim
              (λ (h' : below-it.0 < length passing - 1).
              omega (arith, below_rising test (step + 1) below-it.0 (length passing - 1) h' (omega arith)))
              (λ (h' : length passing - 1 ≤ below-it.0).
              let inside = below-it.1 in
              let same : below-it.0 ≡ length passing - 1 = omega arith in
              omega (arith, ap (λ (k : ℕ). get_or passing k 0) same))
              (cases_lt below-it.0 (length passing - 1)),
        )

  -- the last change, as it is answered
  abbrev change : ℕ
  change = (looking bytes list step).step

  abbrev Greatest : ℕ → Type 0
  Greatest c = Stands c list × (c ≤ step) × ((d : ℕ) → Stands d list → d ≤ step → d ≤ c)

  pub greatest : (looking bytes list step).refusal ≡ 0 → (looking bytes list step).found ≡ 1 → Greatest change
  greatest none found =
      let t = taken none in
      ⊎_elim
      (λ (h : 0 < length passing).
      let some : length passing ≡ 0 → ⊥ = λ z. omega arith in
      let e : change ≡ get_or passing (length passing - 1) 0 =
      ap (λ (l : Looked). l.step) (t.answer ∙ last_some passing some) in
      rw e (last t some))
      (λ (h : length passing ≤ 0).
      let e = ap (λ (l : Looked). l.found) (t.answer ∙ last_none passing (omega arith)) in
      absurd (omega arith))
      (cases_lt 0 (length passing))

  pub none_exactly : (looking bytes list step).refusal ≡ 0
      → ((looking bytes list step).found ≡ 0) ↔ ((d : ℕ) → Stands d list → d ≤ step → ⊥)
  none_exactly none =
      let t = taken none in (
        λ e d s h.
            let stands = down t d s h in
            let inside = stands.1 in
            let some : length passing ≡ 0 → ⊥ = λ z. omega arith in
            let found = ap (λ (l : Looked). l.found) (t.answer ∙ last_some passing some) in
            omega arith,
        λ free.
            ⊎_elim
            (λ (h : 0 < length passing).
            let found = last t (λ z. omega arith) in
            absurd (free (get_or passing (length passing - 1) 0) found.0 found.1))
            (λ (h : length passing ≤ 0).
            ap (λ (l : Looked). l.found) (t.answer ∙ last_none passing (omega arith)))
            (cases_lt 0 (length passing)),
      )
