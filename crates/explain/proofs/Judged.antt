-- Refusals, and the verdict where there is none.
use mathlib.Core.Path.{◌≡◌, refl, sym, subst, ◌∙◌}
use mathlib.Core.Bool.{Bool, true, false}
use mathlib.Core.List.{List, ◌++◌}
use Prim.Native.Nat.{ℕ}
use native.Mathlib.Omega.{arith}
use lib.Dec.{eqb}
use borrow.Author.Tests.{eqb-true, eqb-false, ne_eqb}
use Rattle.basics.specs.First.{Check, first_of}
use Rattle.basics.proofs.First.{none_both, first_behind, first_before}
use Rattle.basics.proofs.Fitting.{settings_fit_lem}
use Rattle.basics.specs.Settings.{sections_fit, mask_fits}
use Rattle.controller.specs.Settings.{fresh, settings_faults}
use Rattle.basics.specs.Capture.{rows_of}
use Rattle.explain.specs.Verdict.{Judging, refused_by, RightBehind}
use Rattle.explain.specs.Trace.{start, Fit, scanned}
use Rattle.explain.proofs.Exact.{scan_right}
use Rattle.explain.proofs.Alike.{found_alike}

-- the scan begins with a fresh record, whose K1 values have channel 0
pub fresh_fit : (n mask w : ℕ) → sections_fit n ≡ true → Fit (start (fresh n false mask w))
fresh_fit n mask w fits = record { sections = fits; sent = omega arith; accepted = omega arith }

-- the settings are asked for first; `rest` are the refusals behind them
module _ (n : ℕ) (hold : Bool) (mask w : ℕ) (bytes : List ℕ) (rest : List Check) where
  abbrev faults : List Check
  faults = settings_faults n mask ++ rest

  abbrev refusal : ℕ
  refusal = first_of faults

  refused_right : (refusal ≡ 0 → ⊥) → RightBehind faults n hold mask w bytes (refused_by refusal)
  unfolding RightBehind
  refused_right some = rw (ne_eqb refusal 0 some) refl

  -- refused for its settings
  pub settings_right : (k : ℕ) → k ≡ first_of (settings_faults n mask) → (first_of (settings_faults n mask) ≡ 0 → ⊥)
      → RightBehind faults n hold mask w bytes (refused_by k)
  settings_right k e some =
      let whole = first_before (settings_faults n mask) rest some in
      subst (λ (m : ℕ). RightBehind faults n hold mask w bytes (refused_by m)) (whole ∙ sym e)
      (refused_right (λ z. some (sym whole ∙ z)))

  module _ (fits : sections_fit n ≡ true) (mask_Fits : mask_fits n mask ≡ true) where
    behind : refusal ≡ first_of rest
    behind = first_behind (settings_faults n mask) rest refl (rw (fits, mask_Fits))

    -- refused for what is asked behind them
    pub rest_right : (k : ℕ) → k ≡ first_of rest → (k ≡ 0 → ⊥) → RightBehind faults n hold mask w bytes (refused_by k)
    rest_right k e some =
        let whole : refusal ≡ k = behind ∙ sym e in
        subst (λ (m : ℕ). RightBehind faults n hold mask w bytes (refused_by m)) whole (refused_right (λ z. some (sym whole ∙ z)))

    pub scanned_right : first_of rest ≡ 0 → RightBehind faults n hold mask w bytes (scanned (fresh n false mask w) bytes)
    unfolding RightBehind
    scanned_right none = rw (behind, none)
        (found_alike n hold mask w (rows_of bytes) (scanned (fresh n false mask w) bytes)
        (scan_right n mask w fits mask_Fits (rows_of bytes)))

  pub right_refused : (j : Judging) → RightBehind faults n hold mask w bytes j → (refusal ≡ 0 → ⊥) → j ≡ refused_by refusal
  unfolding RightBehind
  right_refused j right some = rw (ne_eqb refusal 0 some) at right

  -- there is a right answer
  pub right_some : (j : Judging) × RightBehind faults n hold mask w bytes j
  right_some = go (eqb refusal 0) refl
    where
      go : (t : Bool) → eqb refusal 0 ≡ t → (j : Judging) × RightBehind faults n hold mask w bytes j
      go true e =
          let none = eqb-true refusal 0 e in
          let parts = none_both (settings_faults n mask) rest refl none in
          let fits = settings_fit_lem 1 2 n mask refl parts.0 in
          (scanned (fresh n false mask w) bytes, scanned_right fits.0 fits.1 parts.1)
      go false e = (refused_by refusal, refused_right (eqb-false refusal 0 e))
