-- With hold a held command stays until a clear or a command of higher rank (02, g).
use mathlib.Core.Path.{◌≡◌, refl, sym, ap, subst, ◌∙◌}
use mathlib.Core.Bool.{Bool, true, false, not, and-eq-true_iff}
use mathlib.Core.List.{List, [], ◌∷◌}
use mathlib.Core.Logic.{⊎_elim}
use Prim.Native.Nat.{ℕ, ◌<◌}
use native.Mathlib.Omega.{arith}
use lib.Dec.{leb, eqb}
use borrow.Author.Tests.{eqb-false, leb-true, eq-eqb, ne_eqb, le-ltb, not-true}
use Rattle.basics.specs.Table.{every}
use Rattle.request.specs.declared.Request.{Request}
use Rattle.controller.specs.Settings.{none_held}
use Rattle.controller.specs.Rules.{asked, k1_of, rank_of_request, held_by, is_clear, kept, given, replaces_held, in_force}
use Rattle.controller.specs.Rules.{held_after}
use Rattle.controller.specs.Refusals.{refusal}
use Rattle.controller.specs.Step.{moved, step}
use Rattle.controller.specs.Run.{Input, step_by, leaves_held, holds, run}
use Rattle.controller.specs.declared.Controller.{Controller}
use Rattle.controller.specs.Step.{Stepped}
use Rattle.controller.proofs.Apart.{held_cases}
use Rattle.controller.proofs.Ranking.{command_ranked}
use Rattle.controller.proofs.Inputs.{well_formed, acceptable_facts}
use Rattle.controller.proofs.Keeping.{step_refused, not_refused_lem, step_keeps}

module _ (s : Controller) (i : Input) where
  abbrev prior : Request
  prior = kept i.command (held_by s.hold s.held (asked s.sent))

  abbrev new : Request
  new = given i.command i.channel

  -- what is held after a step that is not refused
  pub held_is : (step_by s i).refusal ≡ 0
      → (step_by s i).controller.held ≡ held_after s.hold (in_force (replaces_held prior new) prior new)
  unfolding moved
  held_is goes = rw (not_refused_lem s i.k1 i.k2 i.conditions i.command i.channel goes).1

  -- a command that is held has a rank, unless the step is refused
  held_ranked : (step_by s i).refusal ≡ 0 → (s.held ≡ none_held → ⊥) → 0 < rank_of_request (asked s.held)
  held_ranked goes some =
      let none = (not_refused_lem s i.k1 i.k2 i.conditions i.command i.channel goes).0 in
      let well = well_formed s _ i.command i.channel none in
      let fits = (acceptable_facts s well.accepts).held_fits in
      ⊎_elim (λ e. absurd (some e))
      (λ is. let high = command_ranked s.n (asked s.held) is.1 is.2 in omega arith)
      (held_cases s.n s.hold s.held fits)

  answered : eqb (refusal s i.conditions i.command i.channel) 0 ≡ true → (step_by s i).refusal ≡ 0
  unfolding step moved
  answered e = rw e

  -- the setting stays, refused or not
  setting_kept : (step_by s i).controller.hold ≡ s.hold
  setting_kept = go (eqb (refusal s i.conditions i.command i.channel) 0) refl
    where
      go : (t : Bool) → eqb (refusal s i.conditions i.command i.channel) 0 ≡ t
          → (step_by s i).controller.hold ≡ s.hold
      go true e =
          (step_keeps s i.k1 i.k2 i.conditions i.command i.channel (answered e)).0.setting
      go false e =
          ap (λ (o : Stepped). o.controller.hold)
          (step_refused s i.k1 i.k2 i.conditions i.command i.channel
          (eqb-false (refusal s i.conditions i.command i.channel) 0 e))

  module _ (on : s.hold ≡ true) (some : s.held ≡ none_held → ⊥) (leaves : leaves_held (asked s.held) i ≡ true) where
    stays_held : (step_by s i).refusal ≡ 0 → (step_by s i).controller.held ≡ s.held
    stays_held goes =
        let parts =
        (and-eq-true_iff (not (is_clear i.command)) (leb (rank_of_request new) (rank_of_request (asked s.held)))).0 leaves in
        let below = leb-true (rank_of_request new) (rank_of_request (asked s.held)) parts.1 in
        let ranked = held_ranked goes some in
        let is : prior ≡ asked s.held = rw (not-true (is_clear i.command) parts.0, on) in
        let keeps : replaces_held (asked s.held) new ≡ false =
        rw (
          ne_eqb (rank_of_request (asked s.held)) 0 (omega arith),
          le-ltb (rank_of_request (asked s.held)) (rank_of_request new) below,
        ) in
        let whole : k1_of (asked s.held) ≡ s.held = omega arith in
        held_is goes
        ∙ ap (λ (y : Request). held_after s.hold (in_force (replaces_held y new) y new)) is
        ∙ rw (on, keeps) whole

    -- refused or not
    pub held_again : (step_by s i).controller.held ≡ s.held
    held_again = go (eqb (refusal s i.conditions i.command i.channel) 0) refl
      where
        go : (t : Bool) → eqb (refusal s i.conditions i.command i.channel) 0 ≡ t
            → (step_by s i).controller.held ≡ s.held
        go true e = stays_held (answered e)
        go false e =
            ap (λ (o : Stepped). o.controller.held)
            (step_refused s i.k1 i.k2 i.conditions i.command i.channel
            (eqb-false (refusal s i.conditions i.command i.channel) 0 e))

-- so it is in every step of a run
pub held_runs : (inputs : List Input) (s : Controller) → s.hold ≡ true → (s.held ≡ none_held → ⊥)
    → every (leaves_held (asked s.held)) inputs ≡ true → every (holds s.held) (run s inputs) ≡ true
held_runs [] s on some leaves = refl
held_runs (i ∷ rest) s on some leaves =
    let both = (and-eq-true_iff (leaves_held (asked s.held) i) (every (leaves_held (asked s.held)) rest)).0 leaves in
    let again = held_again s i on some both.0 in
    let next = (step_by s i).controller in
    let later =
    held_runs rest next (setting_kept s i ∙ on) (λ none. some (sym again ∙ none))
    (subst (λ (k : ℕ). every (leaves_held (asked k)) rest ≡ true) (sym again) both.1) in
    rw (eq-eqb next.held s.held again)
    (subst (λ (k : ℕ). every (holds k) (run next rest) ≡ true) again later)
