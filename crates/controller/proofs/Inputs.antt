-- What is known of a step that is not refused.
use mathlib.Core.Path.{◌≡◌, refl}
use mathlib.Core.Bool.{Bool, true, false, not, ◌&&◌, and-eq-true_iff}
use mathlib.Core.List.{List}
use Prim.Native.Nat.{ℕ, ◌+◌, ◌≤◌}
use lib.Dec.{eqb}
use lib.ListN.{length, drop}
use borrow.Author.Tests.{eqb-true, ltb-false, not-false, not-true}
use Rattle.std.specs.Prelude.{if◌then◌else◌}
use Rattle.basics.specs.First.{first_of}
use Rattle.basics.specs.Settings.{sections_fit, mask_fits}
use Rattle.basics.proofs.First.{CountedFrom, none_exact}
use Rattle.pair.specs.Request.{requests, carries}
use Rattle.pair.specs.Marks.{code_of, channel_of, usable}
use Rattle.controller.specs.Settings.{settings_faults}
use Rattle.controller.specs.Refusals.{against_mask, wait_fits, held_fits, acceptable, conditions_fit, channel_fits}
use Rattle.controller.specs.Refusals.{step_faults, refusal}
use Rattle.controller.specs.declared.Controller.{Controller}

pub faults_counted : (s : Controller) (conditions : List ℕ) (command c : ℕ)
    → CountedFrom 1 (step_faults s conditions command c)
faults_counted s conditions command c = (refl, (refl, (refl, (refl, (refl, (refl, (refl, tt)))))))

pub record WellFormed (s : Controller) (conditions : List ℕ) (command c : ℕ) : Type 0 where
  pub fits : sections_fit s.n ≡ true
  pub mask_fits : mask_fits s.n s.mask ≡ true
  pub accepts : acceptable s ≡ true
  pub number : length conditions ≡ s.n + 1
  pub conditions_fit : conditions_fit conditions ≡ true
  pub command_fits : command ≤ 4
  pub channel_fits : channel_fits s.n command c ≡ true

pub well_formed : (s : Controller) (conditions : List ℕ) (command c : ℕ) → refusal s conditions command c ≡ 0
    → WellFormed s conditions command c
unfolding refusal
well_formed s conditions command c h =
    let none = (none_exact (step_faults s conditions command c) refl).0 h in
    record {
      fits = not-false (sections_fit s.n) (none 0);
      mask_fits = not-false (mask_fits s.n s.mask) (none 1);
      accepts = not-false (acceptable s) (none 2);
      number = eqb-true (length conditions) (s.n + 1) (not-false (eqb (length conditions) (s.n + 1)) (none 3));
      conditions_fit = not-false (conditions_fit conditions) (none 4);
      command_fits = ltb-false 4 command (none 5);
      channel_fits = not-false (channel_fits s.n command c) (none 6);
    }

-- what refusal 3 leaves of a record
pub record Acceptable (s : Controller) : Type 0 where
  pub pair_usable : usable s.n s.k1 s.k2 ≡ true
  pub carried : carries requests s.n (code_of s.sent) (channel_of s.sent) ≡ true
  pub coded : against_mask s.mask (code_of s.sent) (channel_of s.sent) ≡ false
  pub waits : wait_fits (code_of s.sent) s.w s.left ≡ true
  pub held_fits : held_fits s.n s.hold s.held ≡ true

pub acceptable_facts : (s : Controller) → acceptable s ≡ true → Acceptable s
unfolding acceptable
acceptable_facts s h =
    let last =
    (and-eq-true_iff
    (usable s.n s.k1 s.k2 && carries requests s.n (code_of s.sent) (channel_of s.sent)
    && not (against_mask s.mask (code_of s.sent) (channel_of s.sent))
    && wait_fits (code_of s.sent) s.w s.left)
    (held_fits s.n s.hold s.held)).0 h in
    let fourth =
    (and-eq-true_iff
    (usable s.n s.k1 s.k2 && carries requests s.n (code_of s.sent) (channel_of s.sent)
    && not (against_mask s.mask (code_of s.sent) (channel_of s.sent)))
    (wait_fits (code_of s.sent) s.w s.left)).0 last.0 in
    let third =
    (and-eq-true_iff
    (usable s.n s.k1 s.k2 && carries requests s.n (code_of s.sent) (channel_of s.sent))
    (not (against_mask s.mask (code_of s.sent) (channel_of s.sent)))).0 fourth.0 in
    let two =
    (and-eq-true_iff (usable s.n s.k1 s.k2)
    (carries requests s.n (code_of s.sent) (channel_of s.sent))).0 third.0 in
    record {
      pair_usable = two.0;
      carried = two.1;
      coded = not-true (against_mask s.mask (code_of s.sent) (channel_of s.sent)) third.1;
      waits = fourth.1;
      held_fits = last.1;
    }

pub facts_acceptable : (s : Controller) → Acceptable s → acceptable s ≡ true
unfolding acceptable
facts_acceptable s a = rw (a.pair_usable, a.carried, a.coded, a.waits) a.held_fits

-- the refusals of the settings come first, and then the others
by_settings : (f m : Bool) (rest : ℕ) →
    let first : ℕ = if not f then 1 else if not m then 2 else 0 in
    (if not f then 1 else if not m then 2 else rest) ≡ (if eqb first 0 then rest else first)
by_settings true true rest = refl
by_settings true false rest = refl
by_settings false m rest = refl

pub refusal_by_settings : (s : Controller) (conditions : List ℕ) (command c : ℕ) →
    let first = first_of (settings_faults s.n s.mask) in
    refusal s conditions command c
    ≡ (if eqb first 0 then first_of (drop 2 (step_faults s conditions command c)) else first)
unfolding refusal
refusal_by_settings s conditions command c =
    by_settings (sections_fit s.n) (mask_fits s.n s.mask) (first_of (drop 2 (step_faults s conditions command c)))
