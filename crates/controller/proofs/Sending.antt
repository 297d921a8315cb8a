-- What a step that is not refused accepts and sends: the accepted pair is usable, and the request that is sent may be sent.
use mathlib.Core.Path.{◌≡◌, refl, sym, ap, ◌∙◌}
use mathlib.Core.Bool.{Bool, true, false, ◌&&◌, and-eq-true_iff, false≢true}
use mathlib.Core.List.{List, [], ◌∷◌}
use mathlib.Core.Logic.{⊎_elim}
use Prim.Native.Nat.{ℕ, ◌+◌, ◌≤◌, ◌<◌}
use native.Mathlib.Omega.{arith}
use lib.Dec.{ltb, leb, eqb}
use lib.ListN.{length, drop}
use borrow.Author.Tests.{ltb-true, leb-true, eqb-true, eqb-false, lt-leb}
use Rattle.pair.specs.Request.{requests, carries, rank_of}
use Rattle.pair.specs.Marks.{code_of, channel_of, usable}
use Rattle.pair.proofs.Rows.{held_in, carries_0, carried_within}
use Rattle.pair.proofs.Coding.{usable_parts}
use Rattle.request.specs.Wait.{wait_now}
use Rattle.request.specs.Order.{by_rank, by_turn}
use Rattle.request.specs.declared.Request.{Request}
use Rattle.request.proofs.Order.{choice_has, each_append, best_has}
use Rattle.controller.specs.Settings.{idle_k1}
use Rattle.controller.specs.Rules.{no_request, reverse, asked, accepted, accepting, is_command, held, held_by, is_clear}
use Rattle.controller.specs.Rules.{kept, given, replaces_held, in_force, conditions_from, is_fail_or_degrade, is_wait, enters_wait}
use Rattle.controller.specs.Rules.{waiting, candidates, local_request, decided}
use Rattle.controller.specs.Step.{protection, wait_of}
use Rattle.controller.specs.declared.Controller.{Controller}
use Rattle.controller.specs.Rules.{AcceptedPair}
use Rattle.controller.specs.Asking.{OfKind}
use Rattle.controller.proofs.Usability.{idle_usable}
use Rattle.controller.proofs.Apart.{held_cases, held_by_kind, command_kind}
use Rattle.controller.proofs.Inputs.{WellFormed, Acceptable, acceptable_facts}
use Rattle.controller.proofs.Sendable.{Sendable, none_sendable, lockout_sendable, forced_sendable, manual_sendable}
use Rattle.controller.proofs.Sendable.{command_sendable, wait_sendable, reverse_sendable, conditions_sendable}

-- the pair that a step has accepted, taken apart
pub record Usable (n : ℕ) (far : AcceptedPair) : Type 0 where
  pub pair_usable : usable n far.k1 far.k2 ≡ true
  pub parts : far ≡ accepted far.k1 far.k2 far.mark

module _ (s : Controller) (conditions : List ℕ) (command c : ℕ) (given-well : WellFormed s conditions command c) where
  abbrev last : Request
  last = asked s.sent

  abbrev now : ℕ
  now = wait_of s last command

  abbrev holds : Request
  holds = held_by s.hold s.held last

  abbrev prior : Request
  prior = kept command holds

  abbrev new : Request
  new = given command c

  abbrev stands : Request
  stands = in_force (replaces_held prior new) prior new

  abbrev near : Request
  near = local_request s.mask last (protection conditions) (drop 1 conditions) stands (waiting now last)

  abbrev Able : Request → Type 0
  Able r = Sendable s.n s.mask now r

  well : Acceptable s
  well = acceptable_facts s given-well.accepts

  pub far_usable : (failed : Bool) (k1 k2 : ℕ) → Usable s.n (accepting s failed k1 k2)
  unfolding accepting carries
  far_usable true k1 k2 = record { pair_usable = idle_usable s.n idle_k1 given-well.fits; parts = refl }
  far_usable false k1 k2 = go (usable s.n k1 k2) refl
    where
      go : (t : Bool) → usable s.n k1 k2 ≡ t → Usable s.n (accepting s false k1 k2)
      go true e = rw e record { pair_usable = e; parts = refl }
      go false e = rw e record { pair_usable = well.pair_usable; parts = refl }

  -- channels of a usable pair
  pub far_channel : (failed : Bool) (k1 k2 : ℕ) → (accepting s failed k1 k2).request.channel ≤ s.n
  far_channel failed k1 k2 =
      let far = accepting s failed k1 k2 in
      let u = far_usable failed k1 k2 in
      let p = usable_parts s.n far.k1 far.k2 given-well.fits u.pair_usable in
      let e : far.request.channel ≡ channel_of far.k1 = ap (λ (a : AcceptedPair). a.request.channel) u.parts in
      rw e (carried_within requests s.n (code_of far.k1) (channel_of far.k1) p.carried)

  held_sendable : Able holds
  held_sendable =
      choice_has Able s.hold (asked s.held) (held last)
      (⊎_elim (λ none. rw none (none_sendable s.n s.mask now))
      (λ some. command_sendable s.n s.mask now (asked s.held) some.1 some.2)
      (held_cases s.n s.hold s.held well.held_fits)) (go (is_command (code_of s.sent)) refl)
    where
      go : (t : Bool) → is_command (code_of s.sent) ≡ t → Able (held last)
      go true e = rw e (command_sendable s.n s.mask now last e well.carried)
      go false e = rw e (none_sendable s.n s.mask now)

  given_sendable : Able new
  given_sendable = go (eqb command 2) (eqb command 3) (eqb command 4) refl refl refl
    where
      on_section : 2 < command → (1 ≤ c) × (c ≤ s.n)
      on_section h =
          let fits : leb 1 c && leb c s.n ≡ true = rw (lt-leb command 2 h) at given-well.channel_fits in
          let both = (and-eq-true_iff (leb 1 c) (leb c s.n)).0 fits in
          (leb-true 1 c both.0, leb-true c s.n both.1)

      go : (lo fs ms : Bool) → eqb command 2 ≡ lo → eqb command 3 ≡ fs → eqb command 4 ≡ ms
          → Able new
      go true fs ms e f g = rw e (lockout_sendable s.n s.mask now)
      go false true ms e f g =
          let three = eqb-true command 3 f in
          let b = on_section (omega arith) in
          rw (e, f) (forced_sendable s.n s.mask now c b.0 b.1)
      go false false true e f g =
          let four = eqb-true command 4 g in
          let b = on_section (omega arith) in
          rw (e, f, g) (manual_sendable s.n s.mask now c b.0 b.1)
      go false false false e f g = rw (e, f, g) (none_sendable s.n s.mask now)

  pub stands_sendable : Able stands
  stands_sendable =
      choice_has Able (replaces_held prior new) new prior given_sendable
      (choice_has Able (is_clear command) no_request holds (none_sendable s.n s.mask now) held_sendable)

  pub stands_kind : OfKind is_command stands
  stands_kind =
      command_kind (replaces_held prior new) command c holds
      (held_by_kind s.n s.hold s.held last well.held_fits)

  -- where wait remains, the K1 last sent has a section's channel
  wait_channel : (clear enters waits : Bool) → enters_wait last ≡ enters → is_wait (code_of s.sent) ≡ waits
      → 0 < wait_now clear enters waits s.w s.left → 1 ≤ channel_of s.sent
  unfolding held_in
  wait_channel true enters waits e f h = absurd (omega arith)
  wait_channel false true waits e f h =
      leb-true 1 (channel_of s.sent)
      ((and-eq-true_iff (is_fail_or_degrade (code_of s.sent)) (leb 1 (channel_of s.sent))).0 e).1
  wait_channel false false false e f h = absurd (omega arith)
  wait_channel false false true e f h = go (eqb (channel_of s.sent) 0) refl
    where
      go : (z : Bool) → eqb (channel_of s.sent) 0 ≡ z → 1 ≤ channel_of s.sent
      go true z =
          let six : code_of s.sent ≡ 0b0110 = eqb-true (code_of s.sent) 0b0110 f in
          let zero : channel_of s.sent ≡ 0 = eqb-true (channel_of s.sent) 0 z in
          absurd (false≢true (sym (carries_0 requests s.n 0b0110) ∙ (rw (six, zero) at well.carried)))
      go false z = let some : channel_of s.sent ≡ 0 → ⊥ = eqb-false (channel_of s.sent) 0 z in omega arith

  waiting_sendable : Able (waiting now last)
  waiting_sendable = go (ltb 0 now) refl
    where
      go : (t : Bool) → ltb 0 now ≡ t → Able (waiting now last)
      go true e =
          let remains = ltb-true 0 now e in
          rw e
          (wait_sendable s.n s.mask now (channel_of s.sent)
          (wait_channel (is_clear command) (enters_wait last) (is_wait (code_of s.sent)) refl refl remains)
          (carried_within requests s.n (code_of s.sent) (channel_of s.sent) well.carried) remains)
      go false e = rw e (none_sendable s.n s.mask now)

  -- behind section 0 there are n sections
  working_number : length (drop 1 conditions) ≡ s.n
  working_number = go conditions given-well.number
    where
      go : (xs : List ℕ) → length xs ≡ s.n + 1 → length (drop 1 xs) ≡ s.n
      go [] h = absurd (omega arith)
      go (x ∷ xs) h = omega arith

  local_sendable : Able near
  unfolding local_request
  local_sendable =
      let all = protection conditions ∷ drop 1 conditions in
      let room : 0 + length all ≤ s.n + 1 = omega (arith, working_number) in
      let sections = conditions_sendable s.n s.mask now all 0 room in
      best_has (by_turn rank_of last) Able
      (candidates s.mask (protection conditions) (drop 1 conditions) stands (waiting now last))
      no_request
      (none_sendable s.n s.mask now) (
        stands_sendable,
        each_append Able (conditions_from s.mask 0 all) (waiting now last ∷ []) sections (waiting_sendable, tt),
      )

  pub sent_sendable : (failed : Bool) (k1 k2 : ℕ) → Able (decided (accepting s failed k1 k2).request near)
  sent_sendable failed k1 k2 =
      let far = (accepting s failed k1 k2).request in
      choice_has Able (by_rank rank_of far near) (reverse far.channel) near
      (reverse_sendable s.n s.mask now far.channel (far_channel failed k1 k2)) local_sendable

  -- the wait does not pass W
  pub wait_within : now ≤ s.w
  wait_within = go (is_clear command) (enters_wait last) (is_wait (code_of s.sent)) refl
    where
      go : (clear enters waits : Bool) → is_wait (code_of s.sent) ≡ waits
          → wait_now clear enters waits s.w s.left ≤ s.w
      go true enters waits e = omega arith
      go false true waits e = omega arith
      go false false false e = omega arith
      go false false true e =
          let fits : leb 1 s.left && leb s.left s.w ≡ true = rw e at well.waits in
          let below = leb-true s.left s.w ((and-eq-true_iff (leb 1 s.left) (leb s.left s.w)).0 fits).1 in
          omega arith
