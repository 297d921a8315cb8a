-- With hold and without it the same captures are explained, so the same answer is right.
use mathlib.Core.Path.{◌≡◌, refl, sym, subst}
use mathlib.Core.Bool.{Bool, true, false}
use mathlib.Core.List.{List, [], ◌∷◌}
use mathlib.Core.Logic.{◌↔◌, inl, inr}
use Prim.Native.Nat.{ℕ, ◌+◌}
use lib.ListN.{take}
use Rattle.basics.specs.Capture.{Row}
use Rattle.basics.specs.Settings.{sections_fit, mask_fits}
use Rattle.controller.specs.Settings.{fresh}
use Rattle.controller.specs.declared.Controller.{Controller}
use Rattle.controller.proofs.Keeping.{fresh_acceptable}
use Rattle.explain.specs.Explained.{Cause, stepped, Explains, Explained}
use Rattle.explain.specs.Hold.{remembering, forgetting}
use Rattle.explain.specs.Verdict.{Judging, Found}
use Rattle.explain.proofs.Moving.{step_well}
use Rattle.explain.proofs.Reached.{Able, able_next}
use Rattle.explain.proofs.Remembering.{remembers}
use Rattle.explain.proofs.Forgetting.{Recalls, recalls_next, forgets}

-- some causes explain the rows from a record
abbrev Some : Controller → List Row → Type 0
Some s rows = (causes : List Cause) × Explains s causes rows

-- step by step: without hold, so with it
remembered : (rows : List Row) (s : Controller) → Able s → Some s rows → Some (remembering s) rows
remembered [] s able ([], h) = ([], tt)
remembered [] s able (c ∷ causes, h) = absurd h
remembered (r ∷ rows) s able ([], h) = absurd h
remembered (r ∷ rows) s able (c ∷ causes, h) =
    let (c', sends, is) = remembers s c r able h.0 in
    let (others, rest) = remembered rows (stepped s c r).controller (able_next s c r able h.0) (causes, h.1) in
    (c' ∷ others, (sends, subst (λ (t : Controller). Explains t others rows) (sym is) rest))

-- and with it, so without
forgotten : (rows : List Row) (t : Controller) → Recalls t → Some t rows → Some (forgetting t) rows
forgotten [] t recalls ([], h) = ([], tt)
forgotten [] t recalls (c ∷ causes, h) = absurd h
forgotten (r ∷ rows) t recalls ([], h) = absurd h
forgotten (r ∷ rows) t recalls (c ∷ causes, h) =
    let (c', sends, is) = forgets t c r recalls h.0 in
    let (others, rest) = forgotten rows (stepped t c r).controller (recalls_next t c r recalls h.0) (causes, h.1) in
    (c' ∷ others, (sends, subst (λ (s : Controller). Explains s others rows) (sym is) rest))

module _ (n mask w : ℕ) (fits : sections_fit n ≡ true) (mask_right : mask_fits n mask ≡ true) where
  pub fresh_able : Able (fresh n false mask w)
  fresh_able = record { fits = fits; mask_fits = mask_right; accepts = fresh_acceptable n false mask w fits; off = refl }

  pub fresh_recalls : Recalls (fresh n true mask w)
  fresh_recalls =
      record {
        fits = fits;
        mask_fits = mask_right;
        accepts = fresh_acceptable n true mask w fits;
        on = refl;
        shows = λ is. refl;
      }

  explained_alike : (rows : List Row) → Explained n true mask w rows ↔ Explained n false mask w rows
  explained_alike rows = (forgotten rows (fresh n true mask w) fresh_recalls, remembered rows (fresh n false mask w) fresh_able)

-- what has an explanation, with a step or more, has settings that fit
settings_fit_lem : (n : ℕ) (hold : Bool) (mask w : ℕ) (r : Row) (rows : List Row) → Explained n hold mask w (r ∷ rows)
    → (sections_fit n ≡ true) × (mask_fits n mask ≡ true)
settings_fit_lem n hold mask w r rows ([], h) = absurd h
settings_fit_lem n hold mask w r rows (c ∷ causes, h) =
    let well = step_well (fresh n hold mask w) c r h.0.not_refused in (well.fits, well.mask_fits)

-- so the settings need not be asked for
pub hold_alike : (n mask w : ℕ) (rows : List Row) → Explained n true mask w rows ↔ Explained n false mask w rows
hold_alike n mask w [] = (λ h. ([], tt), λ h. ([], tt))
hold_alike n mask w (r ∷ rows) = (
  λ h. let (fits, mask_right) = settings_fit_lem n true mask w r rows h in (explained_alike n mask w fits mask_right (r ∷ rows)).0 h,
  λ h. let (fits, mask_right) = settings_fit_lem n false mask w r rows h in (explained_alike n mask w fits mask_right (r ∷ rows)).1 h,
)

-- what is found without hold is found with it
pub found_alike : (n : ℕ) (hold : Bool) (mask w : ℕ) (rows : List Row) (j : Judging) → Found n false mask w rows j
    → Found n hold mask w rows j
found_alike n false mask w rows j found = found
found_alike n true mask w rows j (inl (e, some)) = inl (e, (hold_alike n mask w rows).1 some)
found_alike n true mask w rows j (inr (i, e, some, none)) =
    inr (
      i,
      e,
      (hold_alike n mask w (take i rows)).1 some,
      λ h. none ((hold_alike n mask w (take (i + 1) rows)).0 h),
    )
