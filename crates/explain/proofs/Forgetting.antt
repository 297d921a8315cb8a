-- With hold and then without it: what the controller with hold sends under some cause is sent without hold under another, from the
-- record that has forgotten what is held to one that has. A command is given anew when it is sent, and a clear drops one that
-- was last sent when none is.
use mathlib.Core.Path.{◌≡◌, refl, sym, ap, subst, ◌∙◌}
use mathlib.Core.Bool.{Bool, true, false, not, ◌&&◌, ◌||◌, false≢true}
use mathlib.Core.List.{List}
use mathlib.Core.Logic.{◌⊎◌, inl, inr}
use Prim.Native.Nat.{ℕ, ◌≤◌, zero-le}
use native.Mathlib.Omega.{arith}
use lib.Dec.{eqb, lit≤}
use lib.ListN.{drop}
use borrow.Author.Tests.{eqb-true}
use Rattle.basics.specs.Capture.{Row}
use Rattle.std.specs.Prelude.{if◌then◌else◌}
use Rattle.basics.specs.Settings.{sections_fit, mask_fits}
use Rattle.pair.specs.Request.{lockout_code, forced_code, requests, carries, rank_in, rank_of}
use Rattle.pair.specs.Marks.{code_of}
use Rattle.request.specs.Wait.{wait_now}
use Rattle.request.specs.declared.Request.{Request}
use Rattle.controller.specs.Settings.{none_held}
use Rattle.controller.specs.Rules.{no_request, asked, k1_of, is_command, held, held_by, is_clear, given, replaces_held}
use Rattle.controller.specs.Rules.{is_fail_or_degrade, is_wait, enters_wait, waiting, held_after, left_after}
use Rattle.controller.specs.Refusals.{acceptable, channel_fits}
use Rattle.controller.specs.Step.{protection, wait_of}
use Rattle.controller.specs.declared.Controller.{Controller}
use Rattle.controller.proofs.Apart.{wait_kind, command_cases}
use Rattle.controller.proofs.Inputs.{WellFormed, acceptable_facts, facts_acceptable}
use Rattle.controller.proofs.Sending.{stands_kind}
use Rattle.controller.proofs.Keeping.{step_keeps}
use Rattle.explain.specs.Explained.{Cause, stepped, Sends}
use Rattle.explain.specs.Cause.{is_new, goes_on, command_number, command_for, channel_for}
use Rattle.explain.specs.Hold.{forgetting, HoldsSent}
use Rattle.explain.proofs.Commands.{commanded_of}
use Rattle.explain.proofs.Moving.{stands_for, far_in, sent_with, stands_in, acts_in, step_moves, acts_well, sent_able, sent_asked, sent_left}
use Rattle.explain.proofs.Moving.{recast_sends, recast_left}
use Rattle.explain.proofs.Without.{sent_command, decided_without}
use Rattle.explain.proofs.Witness.{by_command}
use Rattle.std.proofs.lemmas.Bool.{or_parts}

-- what a run with hold keeps of a record
pub record Recalls (t : Controller) : Type 0 where
  pub fits : sections_fit t.n ≡ true
  pub mask_fits : mask_fits t.n t.mask ≡ true
  pub accepts : acceptable t ≡ true
  pub on : t.hold ≡ true
  pub shows : HoldsSent t

-- a clear leaves no command in force
cleared : (holds : Request) (command c : ℕ) → is_clear command ≡ true → stands_for holds command c ≡ no_request
unfolding rank_of rank_in
cleared holds command c e = let one : command ≡ 1 = eqb-true command 1 e in rw one

-- the cause that is shown of a command is no clear
number_unclear : (last x : Request) → is_clear (command_for last x false) ≡ false
number_unclear last x = go (is_new last x)
  where
    number : (a b : Bool) → is_clear (if a then 2 else if b then 3 else 4) ≡ false
    number true b = refl
    number false true = refl
    number false false = refl

    quiet : (a : Bool) → is_clear (if a && false then 1 else 0) ≡ false
    quiet true = refl
    quiet false = refl

    go : (b : Bool) → is_clear (if b then command_number x.code else if not (goes_on x) && false then 1 else 0) ≡ false
    go true = number (eqb x.code lockout_code) (eqb x.code forced_code)
    go false = quiet (not (goes_on x))

clear_known : (b : Bool) → (if b then 1 else 0) ≤ 4
clear_known true = lit≤ tt
clear_known false = zero-le

channel_none : (n : ℕ) (b : Bool) → channel_fits n (if b then 1 else 0) 0 ≡ true
channel_none n true = refl
channel_none n false = refl

-- behind a command no wait runs
none_behind : (t : Controller) (last : Request) (command : ℕ) → is_command last.code ≡ true → wait_of t last command ≡ 0
none_behind t last command is = which (command_cases last.code is)
  where
    by : (code : ℕ) → last.code ≡ code → is_fail_or_degrade code ≡ false → is_wait code ≡ false → wait_of t last command ≡ 0
    by code e fail wait = rw (e, fail, wait) (go (is_clear command))
      where
        go : (b : Bool) → wait_now b false false t.w t.left ≡ 0
        go true = refl
        go false = refl

    which : (last.code ≡ 0b1111) ⊎ (last.code ≡ 0b1110) ⊎ (last.code ≡ 0b1000) → wait_of t last command ≡ 0
    which (inl lo) = by 0b1111 lo refl refl
    which (inr (inl fs)) = by 0b1110 fs refl refl
    which (inr (inr ms)) = by 0b1000 ms refl refl

module _ (t : Controller) (cause : Cause) (r : Row) (recalls : Recalls t) (sends : Sends (stepped t cause r) r) where
  abbrev last : Request
  last = asked t.sent

  abbrev x : Request
  x = asked r.sent_k1

  abbrev acts : List ℕ
  acts = acts_in t cause r

  abbrev now : ℕ
  now = wait_of t last cause.command

  abbrev stands : Request
  stands = stands_in t r.k1 r.k2 acts cause.command cause.channel

  goes : (stepped t cause r).refusal ≡ 0
  goes = sends.not_refused

  well : WellFormed t acts cause.command cause.channel
  well = acts_well t cause r goes

  sent : sent_with t r.k1 r.k2 acts stands now ≡ x
  sent = sent_asked t cause r sends

  carried : carries requests t.n x.code x.channel ≡ true
  carried = subst (λ (y : Request). carries requests t.n y.code y.channel ≡ true) sent (sent_able t cause r goes).carried

  -- a command that is sent is the one in force, so it is held afterwards
  command_stands : is_command x.code ≡ true → stands ≡ x
  command_stands is =
      sent_command t.mask (protection acts) (drop 1 acts) last (waiting now last) (wait_kind now last)
      (far_in t r.k1 r.k2 acts) stands (subst (λ (y : Request). is_command y.code ≡ true) (sym sent) is)
      ∙ sent

  pub recalls_next : Recalls (stepped t cause r).controller
  recalls_next =
      let k = (step_keeps t r.k1 r.k2 cause.conditions cause.command cause.channel goes).0 in
      record {
        fits = rw k.sections recalls.fits;
        mask_fits = rw (k.sections, k.priorities) recalls.mask_fits;
        accepts = k.accepts;
        on = k.setting ∙ recalls.on;
        shows = λ is.
            let left = sent_left t cause r sends in
            let command : is_command x.code ≡ true = ap (λ (k1 : ℕ). is_command (code_of k1)) (sym left) ∙ is in
            let whole : k1_of x ≡ r.sent_k1 = omega arith in
            ap (λ (u : Controller). u.held) (step_moves t cause r goes).after
            ∙ ap (λ (b : Bool). held_after b stands) recalls.on
            ∙ ap k1_of (command_stands command)
            ∙ whole
            ∙ sym left;
      }

  accepts : acceptable (forgetting t) ≡ true
  accepts =
      let facts = acceptable_facts t recalls.accepts in
      facts_acceptable (forgetting t)
      record {
        pair_usable = facts.pair_usable;
        carried = facts.carried;
        coded = facts.coded;
        waits = facts.waits;
        held_fits = refl;
      }

  -- some command that makes the controller without hold send the same, with the same conditions
  abbrev Forgets : Type 0
  Forgets =
      (c' : Cause)
      × Sends (stepped (forgetting t) c' r) r
      × ((stepped (forgetting t) c' r).controller ≡ forgetting (stepped t cause r).controller)

  forgets_by : (command c : ℕ) → command ≤ 4 → channel_fits t.n command c ≡ true → wait_of t last command ≡ now
      → sent_with t r.k1 r.k2 acts (stands_for (held last) command c) now ≡ sent_with t r.k1 r.k2 acts stands now
      → Forgets
  forgets_by command c known fits waits same =
      let sent_same = ap (sent_with t r.k1 r.k2 acts (stands_for (held last) command c)) waits ∙ same in
      let left-same = ap (left_after (sent_with t r.k1 r.k2 acts stands now)) waits in (
        record { conditions = cause.conditions; command = command; channel = c },
        recast_sends t false none_held cause r command c sends accepts known fits sent_same left-same,
        recast_left t false none_held cause r command c sends accepts known fits sent_same left-same,
      )

  wait_by : (a b : ℕ) → is_clear a ≡ is_clear b → wait_of t last a ≡ wait_of t last b
  wait_by a b = ap (λ (z : Bool). wait_now z (enters_wait last) (is_wait last.code) t.w t.left)

  -- the same is sent with this command in force
  sent_by_lem : {stands' : Request} → stands' ≡ stands
      → sent_with t r.k1 r.k2 acts stands' now ≡ sent_with t r.k1 r.k2 acts stands now
  sent_by_lem = ap (λ (y : Request). sent_with t r.k1 r.k2 acts y now)

  -- a command is sent
  module _ (is : is_command x.code ≡ true) where
    -- so there was no clear
    not_cleared : is_clear cause.command ≡ false
    not_cleared = go (is_clear cause.command) refl
      where
        go : (b : Bool) → is_clear cause.command ≡ b → is_clear cause.command ≡ false
        go true e =
            let none = cleared (held_by t.hold t.held last) cause.command cause.channel e in
            absurd (false≢true (ap (λ (y : Request). is_command y.code) (sym none ∙ command_stands is) ∙ is))
        go false e = e

    -- it goes on, or takes the place of the one last sent
    follows : (x ≡ held last) ⊎ (replaces_held (held last) x ≡ true)
    unfolding rank_of rank_in
    follows = go (is_command last.code) refl
      where
        new : Request
        new = given cause.command cause.channel

        chosen : (b : Bool) → replaces_held (held last) new ≡ b → (if b then new else held last) ≡ x
            → (x ≡ held last) ⊎ (replaces_held (held last) x ≡ true)
        chosen true e is-new = inr (subst (λ (y : Request). replaces_held (held last) y ≡ true) is-new e)
        chosen false e is_held_lem = inl (sym is_held_lem)

        go : (b : Bool) → is_command last.code ≡ b → (x ≡ held last) ⊎ (replaces_held (held last) x ≡ true)
        go true e =
            let same : held_by t.hold t.held last ≡ held last =
            ap (λ (b : Bool). held_by b t.held last) recalls.on ∙ ap asked (recalls.shows e) ∙ rw e in
            let force : stands_for (held last) cause.command cause.channel ≡ x =
            ap (λ (y : Request). stands_for y cause.command cause.channel) (sym same) ∙ command_stands is in
            chosen (replaces_held (held last) new) refl (rw not_cleared at force)
        go false e = inr (rw e)

    forgets_command : Forgets
    forgets_command =
        let gives = (by_command t.mask t.w t.left last t.n x carried (commanded_of (held last) x is follows) false).0 in
        forgets_by (command_for last x false) (channel_for last x) gives.known gives.fits
        (wait_by (command_for last x false) cause.command (number_unclear last x ∙ sym not_cleared))
        (sent_by_lem (gives.stands ∙ sym (command_stands is)))

  -- none is sent: a clear where one was given, or where a command was last sent
  module _ (other : is_command x.code ≡ false) where
    abbrev clears : Bool
    clears = is_clear cause.command || is_command last.code

    abbrev instead : ℕ
    instead = if clears then 1 else 0

    nothing_stands : stands_for (held last) instead 0 ≡ no_request
    unfolding rank_of rank_in
    nothing_stands = go clears refl
      where
        go : (b : Bool) → clears ≡ b → stands_for (held last) (if b then 1 else 0) 0 ≡ no_request
        go true e = refl
        go false e = rw (or_parts (is_clear cause.command) (is_command last.code) e).1

    waits_same : wait_of t last instead ≡ now
    waits_same = go (is_clear cause.command) (is_command last.code) refl refl
      where
        go : (a b : Bool) → is_clear cause.command ≡ a → is_command last.code ≡ b
            → wait_of t last (if a || b then 1 else 0) ≡ now
        go true b e f = wait_by 1 cause.command (sym e)
        go false true e f = sym (none_behind t last cause.command f)
        go false false e f = wait_by 0 cause.command (sym e)

    forgets_other : Forgets
    forgets_other =
        let fits : channel_fits t.n instead 0 ≡ true = channel_none t.n clears in
        let quiet =
        decided_without t.mask (protection acts) (drop 1 acts) last (waiting now last) (wait_kind now last) stands
        (stands_kind t acts cause.command cause.channel well) (far_in t r.k1 r.k2 acts)
        (subst (λ (y : Request). is_command y.code ≡ false) (sym sent) other) in
        forgets_by instead 0 (clear_known clears) fits waits_same
        (ap (λ (y : Request). sent_with t r.k1 r.k2 acts y now) nothing_stands ∙ quiet)

  pub forgets : Forgets
  forgets = go (is_command x.code) refl
    where
      go : (b : Bool) → is_command x.code ≡ b → Forgets
      go true e = forgets_command e
      go false e = forgets_other e
