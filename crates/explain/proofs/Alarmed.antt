-- A row that received an alarm (02, c): by the controller's equation, the row that received 00 08 with section 0 failed.
use mathlib.Core.Path.{◌≡◌, refl, sym, ap, ◌∙◌}
use mathlib.Core.Bool.{true, and-eq-true_iff, false≢true}
use mathlib.Core.List.{List, [], ◌∷◌}
use mathlib.Core.Logic.{◌↔◌}
use Prim.Native.Nat.{ℕ, ◌+◌}
use native.Mathlib.Omega.{arith}
use lib.Dec.{leb, eqb}
use borrow.Author.Tests.{eqb-true}
use Rattle.pair.specs.Marks.{alarm}
use Rattle.controller.specs.Settings.{idle_k1, idle_k2}
use Rattle.controller.specs.Refusals.{conditions_fit}
use Rattle.controller.specs.Step.{protection, step}
use Rattle.controller.specs.declared.Controller.{Controller}
use Rattle.controller.specs.Step.{Stepped}
use Rattle.controller.proofs.Inputs.{WellFormed, well_formed}
use Rattle.controller.proofs.Alarm.{alarm_step}
use Rattle.controller.proofs.Keeping.{unrefused}
use Rattle.basics.specs.Capture.{Row, row}
use Rattle.explain.specs.Explained.{Cause, stepped, Sends}

-- the row, had 00 08 been received
abbrev pub quieted : Row → Row
quieted r = row idle_k1 idle_k2 r.sent_k1 r.sent_k2

module _ (s : Controller) (r : Row) (loud : alarm s.n r.k1 r.k2 ≡ true) where
  -- what it answers under some cause is answered to 00 08 under a cause with section 0 failed
  alarm_failed : (cause : Cause) → Sends (stepped s cause r) r
      → (c : Cause) × (eqb (protection c.conditions) 2 ≡ true) × (stepped s cause r ≡ stepped s c (quieted r))
  unfolding conditions_fit
  alarm_failed cause sends = go cause.conditions refl
    where
      well : WellFormed s cause.conditions cause.command cause.channel
      well =
          well_formed s cause.conditions cause.command cause.channel
          (unrefused s r.k1 r.k2 cause.conditions cause.command cause.channel sends.not_refused)

      go : (xs : List ℕ) → cause.conditions ≡ xs
          → (c : Cause) × (eqb (protection c.conditions) 2 ≡ true) × (stepped s cause r ≡ stepped s c (quieted r))
      go [] e = let none : 0 ≡ s.n + 1 = rw e at well.number in absurd (omega arith)
      go (x ∷ working) e =
          let fit : conditions_fit (x ∷ working) ≡ true = rw e at well.conditions_fit in (
            record { conditions = 2 ∷ working; command = cause.command; channel = cause.channel },
            refl,
            ap (λ (xs : List ℕ). step s r.k1 r.k2 xs cause.command cause.channel) e
                ∙ alarm_step s cause.command cause.channel r.k1 r.k2 idle_k1 idle_k2 x working loud
                ((and-eq-true_iff (leb x 2) (conditions_fit working)).0 fit).0,
          )

  -- and what 00 08 is answered with section 0 failed, it is answered too
  failed_alarm : (cause : Cause) → eqb (protection cause.conditions) 2 ≡ true
      → stepped s cause r ≡ stepped s cause (quieted r)
  failed_alarm cause failed = go cause.conditions refl
    where
      go : (xs : List ℕ) → cause.conditions ≡ xs → stepped s cause r ≡ stepped s cause (quieted r)
      go [] e = absurd (false≢true (rw e at failed))
      go (x ∷ working) e =
          let two : x ≡ 2 = eqb-true x 2 (rw e at failed) in
          let whole : cause.conditions ≡ 2 ∷ working = e ∙ ap (λ (k : ℕ). k ∷ working) two in
          ap (λ (xs : List ℕ). step s r.k1 r.k2 xs cause.command cause.channel) whole
          ∙ alarm_step s cause.command cause.channel r.k1 r.k2 idle_k1 idle_k2 2 working loud refl
          ∙ ap (λ (xs : List ℕ). step s idle_k1 idle_k2 xs cause.command cause.channel) (sym whole)

  -- so does the record that it leads to
  pub failed_leads : (cause : Cause) → eqb (protection cause.conditions) 2 ≡ true → (u : Controller)
      → Sends (stepped s cause (quieted r)) (quieted r) × (u ≡ (stepped s cause (quieted r)).controller)
      → Sends (stepped s cause r) r × (u ≡ (stepped s cause r).controller)
  failed_leads cause failed u (sends, is) =
      let same = failed_alarm cause failed in (
        record {
          not_refused = rw same sends.not_refused;
          first = rw same sends.first;
          second = rw same sends.second;
        },
        is ∙ ap (λ (o : Stepped). o.controller) (sym same),
      )

  -- some cause leads to a record by the row; one with section 0 failed leads to it by the other
  abbrev Leads : Controller → Type 0
  Leads u = (c : Cause) × Sends (stepped s c r) r × (u ≡ (stepped s c r).controller)

  abbrev LeadsFailed : Controller → Type 0
  LeadsFailed u =
      (c : Cause)
      × (eqb (protection c.conditions) 2 ≡ true)
      × Sends (stepped s c (quieted r)) (quieted r)
      × (u ≡ (stepped s c (quieted r)).controller)

  pub alarm_exact : (u : Controller) → Leads u ↔ LeadsFailed u
  alarm_exact u = (forward, backward)
    where
      forward : Leads u → LeadsFailed u
      forward (cause, sends, is) =
          let (c, failed, same) = alarm_failed cause sends in (
            c,
            failed,
            record {
              not_refused = rw same at sends.not_refused;
              first = rw same at sends.first;
              second = rw same at sends.second;
            },
            is ∙ ap (λ (o : Stepped). o.controller) same,
          )

      backward : LeadsFailed u → Leads u
      backward (c, failed, sends, is) = let led = failed_leads c failed u (sends, is) in (c, led.0, led.1)
