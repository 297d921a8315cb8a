-- Laws of making a fresh record: the answer is the one that its numbers call for, and a record comes of good settings.
use Rattle.std.proofs.Common.{◌≡◌, refl, sym, ap, ◌∙◌, Bool, true, ℕ, Result, Ok, Err}
use borrow.Author.Tests.{ne_eqb, eq-eqb}
use Rattle.basics.specs.Answer.{Answers}
use Rattle.basics.specs.First.{first_error, first_of}
use Rattle.basics.specs.Refusal.{refusal_number, refusal_told}
use Rattle.basics.specs.Settings.{sections_fit, mask_fits, settings_checks}
use Rattle.basics.specs.declared.refusal.Refusal.{Refusal}
use Rattle.basics.specs.declared.refusal.Refusal.TheVariants.{Sections, Mask}
use Rattle.basics.proofs.Fitting.{settings_fit_lem}
use Rattle.basics.proofs.One.{answers}
use Rattle.basics.proofs.Refusals.{number_some, with_number, settings_told}
use Rattle.controller.specs.Settings.{fresh, settings_faults, making_told, making_case, making}
use Rattle.controller.specs.declared.Controller.{Controller}

-- an answer's numbers call for it
pub making_back : (answer : Result Controller Refusal) → making_case (making_told answer) ≡ answer
making_back (Ok s) = refl
making_back (Err e) = rw (ne_eqb (refusal_number e) 0 (number_some e), with_number e)

-- so an answer that tells what is right is the right one
pub told_answers : {A B : Type 0} {told : A → B} {case_of : B → A} {right : B} {answer : A}
    → case_of (told answer) ≡ answer → told answer ≡ right → Answers told case_of right answer
told_answers {case_of = case_of} back numbers = record { numbers = numbers; decided = sym back ∙ ap case_of numbers }

-- what is answered once the settings are checked
abbrev pub after_check : Result (Unit {0}) Refusal → Controller → Result Controller Refusal
after_check (Ok _) s = Ok s
after_check (Err e) s = Err e

module _ (n : ℕ) (hold : Bool) (mask w : ℕ) where
  abbrev checked : Result (Unit {0}) Refusal
  checked = first_error (settings_checks Sections Mask n mask)

  pub told_making : (check : Result (Unit {0}) Refusal) → check ≡ checked
      → making_told (after_check check (fresh n hold mask w)) ≡ making n hold mask w
  unfolding making
  told_making check is = go check (ap refusal_told is ∙ settings_told Sections Mask n mask)
    where
      go : (check : Result (Unit {0}) Refusal) → refusal_told check ≡ first_of (settings_faults n mask)
          → making_told (after_check check (fresh n hold mask w)) ≡ making n hold mask w
      go (Ok _) e = rw (eq-eqb (first_of (settings_faults n mask)) 0 (sym e))
      go (Err r) e = rw (← e, ne_eqb (refusal_number r) 0 (number_some r))

  made : making_case (making n hold mask w) ≡ after_check checked (fresh n hold mask w)
  made = ap making_case (sym (told_making checked refl)) ∙ making_back (after_check checked (fresh n hold mask w))

  pub made_by : {answer : Result Controller Refusal} → answer ≡ making_case (making n hold mask w)
      → Answers making_told making_case (making n hold mask w) answer
  made_by is = answers (ap making_told made ∙ told_making checked refl) is

  pub fresh_facts : (s : Controller) → making_case (making n hold mask w) ≡ Ok s
      → (s ≡ fresh n hold mask w) × (sections_fit n ≡ true) × (mask_fits n mask ≡ true)
  fresh_facts s h = go checked (sym made ∙ h) (settings_told Sections Mask n mask)
    where
      go : (check : Result (Unit {0}) Refusal) → after_check check (fresh n hold mask w) ≡ Ok s
          → refusal_told check ≡ first_of (settings_faults n mask)
          → (s ≡ fresh n hold mask w) × (sections_fit n ≡ true) × (mask_fits n mask ≡ true)
      go (Ok _) e none =
          let fits = settings_fit_lem 1 2 n mask refl (sym none) in (cc, fits.0, fits.1)
      go (Err r) e none = cc

  pub refused_facts : (r : Refusal) → making_case (making n hold mask w) ≡ Err r
      → (refusal_number r ≡ first_of (settings_faults n mask)) × (first_of (settings_faults n mask) ≡ 0 → ⊥)
  refused_facts r h = go checked (sym made ∙ h) (settings_told Sections Mask n mask)
    where
      go : (check : Result (Unit {0}) Refusal) → after_check check (fresh n hold mask w) ≡ Err r
          → refusal_told check ≡ first_of (settings_faults n mask)
          → (refusal_number r ≡ first_of (settings_faults n mask)) × (first_of (settings_faults n mask) ≡ 0 → ⊥)
      go (Ok _) e some = cc
      go (Err q) e some =
          let same : q ≡ r = cc in
          let is = ap refusal_number (sym same) ∙ some in
          (is, λ none. number_some r (is ∙ none))
