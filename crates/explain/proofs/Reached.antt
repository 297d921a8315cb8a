-- From requests to bytes: the records that a controller can have after a row, by the closed forms over the row's bytes.
use mathlib.Core.Path.{◌≡◌, refl, sym, ap, subst, ◌∙◌}
use mathlib.Core.Bool.{Bool, true, false, ◌&&◌, and-eq-true_iff}
use mathlib.Core.Logic.{◌⊎◌, inl, inr}
use Prim.Native.Nat.{ℕ, ◌+◌}
use native.Mathlib.Omega.{arith}
use lib.Dec.{eqb}
use lib.ListN.{length, drop}
use borrow.Author.Tests.{eqb-true, eq-eqb, le-leb}
use Rattle.std.specs.Prelude.{if◌then◌else◌}
use Rattle.basics.specs.Settings.{sections_fit, mask_fits}
use Rattle.pair.specs.Request.{requests, carries}
use Rattle.pair.specs.Marks.{code_of, channel_of, usable, alarm, mark}
use Rattle.pair.proofs.Coding.{usable_parts}
use Rattle.request.specs.Bridge.{bridge}
use Rattle.request.specs.Order.{may_win}
use Rattle.request.specs.declared.Request.{Request}
use Rattle.request.proofs.Channels.{bridge_within}
use Rattle.controller.specs.Settings.{idle_k1, idle_k2, none_held}
use Rattle.controller.specs.Rules.{asked, k1_of, rank_of_request, accepted, accepting, held, held_by, is_wait, waiting}
use Rattle.controller.specs.Rules.{local_request, decided, held_after, left_after, keeps_bridge, k2_of}
use Rattle.controller.specs.Refusals.{acceptable}
use Rattle.controller.specs.Step.{protection, wait_of, moved}
use Rattle.controller.specs.declared.Controller.{Controller}
use Rattle.controller.specs.Step.{Stepped}
use Rattle.controller.proofs.Inputs.{WellFormed, well_formed}
use Rattle.controller.proofs.Sendable.{Sendable, sendable_room}
use Rattle.controller.proofs.Sending.{sent_sendable}
use Rattle.controller.proofs.Keeping.{k1_back, not_refused_lem, step_keeps, step_unrefused}
use Rattle.basics.specs.Capture.{Row}
use Rattle.explain.specs.Explained.{Cause, stepped, Sends}
use Rattle.explain.specs.Cause.{commanded, unseen, answers}
use Rattle.explain.specs.Trace.{second_fits, opens, local_in, hidden_in, record_after, accepted_byte}
use Rattle.explain.proofs.Local.{wait_unclear, near_of}
use Rattle.explain.proofs.Moving.{left_by, stands_for, moved_parts}
use Rattle.explain.proofs.OneStep.{CausedBy, Caused, shown_by, open_shown, hidden_shown, one_step, one_hidden_step}

-- what a run keeps of a record, without hold
pub record Able (s : Controller) : Type 0 where
  pub fits : sections_fit s.n ≡ true
  pub mask_fits : mask_fits s.n s.mask ≡ true
  pub accepts : acceptable s ≡ true
  pub off : s.hold ≡ false

pub able_next : (s : Controller) (cause : Cause) (r : Row) → Able s → Sends (stepped s cause r) r
    → Able (stepped s cause r).controller
able_next s cause r a sends =
    let k = (step_keeps s r.k1 r.k2 cause.conditions cause.command cause.channel sends.not_refused).0 in
    record {
      fits = rw k.sections a.fits;
      mask_fits = rw (k.sections, k.priorities) a.mask_fits;
      accepts = k.accepts;
      off = k.setting ∙ a.off;
    }

k1_whole : (k1 : ℕ) → k1_of (asked k1) ≡ k1
k1_whole k1 = omega arith

-- a row that received no alarm
module _ (s : Controller) (r : Row) (able : Able s) (quiet : alarm s.n r.k1 r.k2 ≡ false) where
  abbrev last : Request
  last = asked s.sent

  abbrev x : Request
  x = asked r.sent_k1

  -- the accepted pair, and what it asks for
  abbrev far_k1 : Bool → ℕ
  far_k1 failed = (accepting s failed r.k1 r.k2).k1

  abbrev far_k2 : Bool → ℕ
  far_k2 failed = (accepting s failed r.k1 r.k2).k2

  abbrev far : Bool → Request
  far failed = (accepting s failed r.k1 r.k2).request

  module _ (cause : Cause) where
    abbrev near : Request
    near = near_of s.mask s.w s.left last cause.conditions cause.command cause.channel

    abbrev now : ℕ
    now = wait_of s last cause.command

    -- what a step that is not refused answers
    record Answered (failed : Bool) (o : Stepped) : Type 0 where
      first : o.k1 ≡ k1_of (decided (far failed) near)
      second :
          o.k2
          ≡ k2_of (bridge (far failed).channel (decided (far failed) near).channel (keeps_bridge (decided (far failed) near)))
      after :
          o.controller
          ≡ left_by s (far_k1 failed) (far_k2 failed) (k1_of (decided (far failed) near))
          (left_after (decided (far failed) near) now) none_held

    -- without hold the held command is read off the K1 last sent
    read_off : held_by s.hold s.held last ≡ held last
    read_off = ap (λ (t : Bool). held_by t s.held last) able.off

    abbrev sent_by : Bool → Request → Request
    sent_by failed holds =
        decided (far failed)
        (local_request s.mask last (protection cause.conditions) (drop 1 cause.conditions)
        (stands_for holds cause.command cause.channel) (waiting now last))

    moved_is : Answered (eqb (protection cause.conditions) 2)
        (moved s r.k1 r.k2 cause.conditions cause.command cause.channel)
    moved_is =
        let failed = eqb (protection cause.conditions) 2 in
        let parts = moved_parts s r.k1 r.k2 cause.conditions cause.command cause.channel in
        let none : held_after s.hold (stands_for (held_by s.hold s.held last) cause.command cause.channel) ≡ none_held =
        ap
        (λ (t : Bool).
        held_after t (stands_for (held_by s.hold s.held last) cause.command cause.channel)) able.off in
        record {
          first = parts.first ∙ ap (λ (y : Request). k1_of (sent_by failed y)) read_off;
          second =
              parts.second
              ∙ ap
              (λ (y : Request).
              k2_of (bridge (far failed).channel (sent_by failed y).channel (keeps_bridge (sent_by failed y)))) read_off;
          after =
              parts.after
              ∙ (λ i.
              left_by s (far_k1 failed) (far_k2 failed) (k1_of (sent_by failed (read_off i)))
              (left_after (sent_by failed (read_off i)) now) (none i));
        }

    step_is : (failed : Bool) → eqb (protection cause.conditions) 2 ≡ failed → (stepped s cause r).refusal ≡ 0
        → Answered failed (stepped s cause r)
    step_is failed e h =
        let move = rw quiet at (not_refused_lem s r.k1 r.k2 cause.conditions cause.command cause.channel h).1 in
        subst (λ (t : Bool). Answered t (stepped s cause r)) e (subst (Answered (eqb (protection cause.conditions) 2)) (sym move) moved_is)

  -- the wait of a step without clear
  abbrev now0 : ℕ
  now0 = wait_of s last 0

  -- the records after the row: with 00 08 accepted under a failed section 0, or with the pair that is accepted otherwise
  abbrev pub Reached : Controller → Type 0
  Reached u =
      (carries requests s.n x.code x.channel ≡ true)
      × (((hidden_in s x r.sent_k2 ≡ true) × (u ≡ record_after s now0 idle_k1 idle_k2 r.sent_k1))
      ⊎ ((opens (far_k1 false) x r.sent_k2 (local_in s x) ≡ true)
      × (u ≡ record_after s now0 (far_k1 false) (far_k2 false) r.sent_k1)))

  -- that pair is the received one if it is usable, and else the one before
  far_parts : (t : Bool) → usable s.n r.k1 r.k2 ≡ t
      → (far_k1 false ≡ accepted_byte t r.k1 s.k1)
      × (far_k2 false ≡ accepted_byte t r.k2 s.k2)
      × (far false ≡ asked (far_k1 false))
  unfolding accepting
  far_parts t e =
      subst
      (λ (b : Bool).
      (far_k1 false ≡ accepted_byte b r.k1 s.k1)
      × (far_k2 false ≡ accepted_byte b r.k2 s.k2)
      × (far false ≡ asked (far_k1 false))) e (go (usable s.n r.k1 r.k2))
    where
      go : (t : Bool) →
          let pair = if t then accepted r.k1 r.k2 0 else accepted s.k1 s.k2 (mark s.n r.k1 r.k2) in
          (pair.k1 ≡ accepted_byte t r.k1 s.k1)
          × (pair.k2 ≡ accepted_byte t r.k2 s.k2)
          × (pair.request ≡ asked pair.k1)
      go true = (refl, refl, refl)
      go false = (refl, refl, refl)

  pub far_accepted : (t : Bool) → usable s.n r.k1 r.k2 ≡ t
      → (far_k1 false ≡ accepted_byte t r.k1 s.k1) × (far_k2 false ≡ accepted_byte t r.k2 s.k2)
  far_accepted t e = let parts = far_parts t e in (parts.0, parts.1)

  pub far_asked : (failed : Bool) → far failed ≡ asked (far_k1 failed)
  unfolding accepting
  far_asked true = refl
  far_asked false = (far_parts (usable s.n r.k1 r.k2) refl).2

  module _ (cause : Cause) (sends : Sends (stepped s cause r) r) where
    abbrev failed : Bool
    failed = eqb (protection cause.conditions) 2

    abbrev sent : Request
    sent = decided (far failed) (near cause)

    well : WellFormed s cause.conditions cause.command cause.channel
    well =
        well_formed s cause.conditions cause.command cause.channel
        (rw quiet at
        (not_refused_lem s r.k1 r.k2 cause.conditions cause.command cause.channel sends.not_refused).0)

    answered : Answered cause failed (stepped s cause r)
    answered = step_is cause failed refl sends.not_refused

    sendable : Sendable s.n s.mask (now cause) sent
    sendable =
        subst (λ (y : Request). Sendable s.n s.mask (now cause) (sent_by cause failed y)) (read_off cause)
        (sent_sendable s cause.conditions cause.command cause.channel well failed r.k1 r.k2)

    first_is : k1_of sent ≡ r.sent_k1
    first_is = sym answered.first ∙ sends.first

    sent_is : sent ≡ x
    sent_is =
        let room = sendable_room s.n s.mask (now cause) sent able.fits sendable in
        let back = k1_back sent room.1 in
        let code : sent.code ≡ code_of r.sent_k1 = sym back.0 ∙ ap code_of first_is in
        let channel : sent.channel ≡ channel_of r.sent_k1 = sym back.1 ∙ ap channel_of first_is in
        λ i. record { code = code i; channel = channel i }

    left_is : left_after sent (now cause) ≡ left_after x now0
    left_is = go (is_wait sent.code) refl
      where
        go : (t : Bool) → is_wait sent.code ≡ t → left_after sent (now cause) ≡ left_after x now0
        go true e =
            let same = wait_unclear s.mask s.w s.left last cause.command (sendable.waits e) in
            ap (left_after sent) same ∙ ap (λ (y : Request). left_after y now0) sent_is
        go false e = rw e (subst (λ (y : Request). 0 ≡ left_after y now0) sent_is (rw e))

    sent_usable : usable s.n r.sent_k1 r.sent_k2 ≡ true
    sent_usable =
        let k =
        (step_keeps s r.k1 r.k2 cause.conditions cause.command cause.channel sends.not_refused).1.pair_usable in
        rw (sends.first, sends.second) at k

    carried : carries requests s.n x.code x.channel ≡ true
    carried = (usable_parts s.n r.sent_k1 r.sent_k2 able.fits sent_usable).carried

    caused : (t : Bool) → failed ≡ t
        → Caused s.n s.mask s.w s.left last t (far t) (held last) (held x) x
    caused t e = (
      cause,
      subst (λ (b : Bool). CausedBy s.n s.mask s.w s.left last b (far b) (held last) (held x) x cause) e
          record {
            fits =
                record {
                  number = well.number;
                  conditions_fit = well.conditions_fit;
                  command_fits = well.command_fits;
                  channel_fits = well.channel_fits;
                };
            protects = refl;
            before = refl;
            sends = sent_is;
            afterwards = refl;
          },
    )

    second_is : (t : Bool) → failed ≡ t
        → second_fits r.sent_k2 (bridge (far t).channel x.channel (keeps_bridge x)) ≡ true
    second_is t e =
        let k2 = sym answered.second ∙ sends.second in
        let here = eq-eqb r.sent_k2 (k2_of (bridge (far failed).channel sent.channel (keeps_bridge sent))) (sym k2) in
        subst (λ (b : Bool). second_fits r.sent_k2 (bridge (far b).channel x.channel (keeps_bridge x)) ≡ true) e
        (subst
        (λ (y : Request). second_fits r.sent_k2 (bridge (far failed).channel y.channel (keeps_bridge y)) ≡ true)
        sent_is here)

    record_is : (t : Bool) → failed ≡ t
        → (stepped s cause r).controller ≡ record_after s now0 (far_k1 t) (far_k2 t) r.sent_k1
    record_is t e =
        subst (λ (b : Bool). (stepped s cause r).controller ≡ record_after s now0 (far_k1 b) (far_k2 b) r.sent_k1) e
        (answered.after
        ∙ (λ i. left_by s (far_k1 failed) (far_k2 failed) (first_is i) (left_is i) none_held))

  bridge_none : (c : ℕ) (kept : Bool) → bridge 0 c kept ≡ 0
  bridge_none c kept = let within = bridge_within 0 c kept in omega arith

  abbrev local : Bool
  local = local_in s x

  abbrev OpenBy : Request → Type 0
  OpenBy y = answers y x local && second_fits r.sent_k2 (bridge y.channel x.channel (keeps_bridge x)) ≡ true

  -- a row that is sent leaves one of these records
  pub failed_reached : (cause : Cause) → Sends (stepped s cause r) r → eqb (protection cause.conditions) 2 ≡ true
      → (carries requests s.n x.code x.channel ≡ true)
      × (hidden_in s x r.sent_k2 ≡ true)
      × ((stepped s cause r).controller ≡ record_after s now0 idle_k1 idle_k2 r.sent_k1)
  unfolding accepting
  failed_reached cause sends e =
      let carry = carried cause sends in
      let hidden =
      (one_hidden_step s.n s.mask s.w s.left last (held last) (held x) x carry).1 (caused cause sends true e) in
      let second : second_fits r.sent_k2 0 ≡ true =
      rw (bridge_none x.channel (keeps_bridge x)) at (second_is cause sends true e) in (
        carry,
        (and-eq-true_iff (unseen (commanded (held last) (held x)) x) (second_fits r.sent_k2 0)).1 (hidden.possible, second),
        record_is cause sends true e,
      )

  open_reached : (cause : Cause) (sends : Sends (stepped s cause r) r) → eqb (protection cause.conditions) 2 ≡ false
      → (opens (far_k1 false) x r.sent_k2 local ≡ true)
      × ((stepped s cause r).controller ≡ record_after s now0 (far_k1 false) (far_k2 false) r.sent_k1)
  open_reached cause sends e =
      let opened =
      (one_step s.n s.mask s.w s.left last (far false) (held last) (held x) x (carried cause sends)).1
      (caused cause sends false e) in
      let both =
      (and-eq-true_iff (answers (far false) x local)
      (second_fits r.sent_k2 (bridge (far false).channel x.channel (keeps_bridge x)))).1
      (opened.possible, second_is cause sends false e) in
      (subst OpenBy (far_asked false) both, record_is cause sends false e)

  pub sends_reached : (cause : Cause) → Sends (stepped s cause r) r → Reached (stepped s cause r).controller
  sends_reached cause sends = go (failed cause sends) refl
    where
      go : (t : Bool) → failed cause sends ≡ t → Reached (stepped s cause r).controller
      go true e = let hides = failed_reached cause sends e in (hides.0, inl (hides.1, hides.2))
      go false e = (carried cause sends, inr (open_reached cause sends e))

  -- and each of them is left under the cause that is shown
  abbrev pub LeadsTo : Cause → Controller → Type 0
  LeadsTo cause u = Sends (stepped s cause r) r × (u ≡ (stepped s cause r).controller)

  abbrev pub shown_in : Bool → Request → Bool → Cause
  shown_in hold shows failed = shown_by s.n s.mask s.w s.left last hold shows failed x

  caused_sends : (t : Bool) (cause : Cause)
      → CausedBy s.n s.mask s.w s.left last t (far t) (held last) (held x) x cause
      → second_fits r.sent_k2 (bridge (far t).channel x.channel (keeps_bridge x)) ≡ true
      → LeadsTo cause (record_after s now0 (far_k1 t) (far_k2 t) r.sent_k1)
  caused_sends t cause by fits = (sends, sym (record_is cause sends t by.protects))
    where
      goes : (stepped s cause r).refusal ≡ 0
      goes =
          let f = by.fits in
          let number = eq-eqb (length cause.conditions) (s.n + 1) f.number in
          step_unrefused s r.k1 r.k2 cause.conditions cause.command cause.channel able.fits
          able.mask_fits able.accepts
          (rw (number, f.conditions_fit, le-leb cause.command 4 f.command_fits, f.channel_fits))

      sends : Sends (stepped s cause r) r
      sends =
          let answered = step_is cause t by.protects goes in
          record {
            not_refused = goes;
            first = answered.first ∙ ap k1_of by.sends ∙ k1_whole r.sent_k1;
            second =
                answered.second
                ∙ ap (λ (y : Request). k2_of (bridge (far t).channel y.channel (keeps_bridge y))) by.sends
                ∙ sym (eqb-true r.sent_k2 (k2_of (bridge (far t).channel x.channel (keeps_bridge x))) fits);
          }

  -- with section 0 failed, as the cause says
  pub failed_sends : (hold : Bool) (shows : Request) → carries requests s.n x.code x.channel ≡ true
      → hidden_in s x r.sent_k2 ≡ true
      → LeadsTo (shown_in hold shows true) (record_after s now0 idle_k1 idle_k2 r.sent_k1)
  unfolding accepting
  failed_sends hold shows carry h =
      let both = (and-eq-true_iff (unseen (commanded (held last) (held x)) x) (second_fits r.sent_k2 0)).0 h in
      let by =
      hidden_shown s.n s.mask s.w s.left last hold shows (held last) (held x) x carry
      record { before = refl; possible = both.0; afterwards = refl } in
      caused_sends true (shown_in hold shows true) by (rw (bridge_none x.channel (keeps_bridge x)) both.1)

  -- and with it not failed; `shows` as in OneStep
  pub open_sends : (hold : Bool) (shows : Request) → (far false ≡ shows) ⊎ (may_win (rank_of_request (far false)) ≡ false)
      → carries requests s.n x.code x.channel ≡ true → opens (far_k1 false) x r.sent_k2 local ≡ true
      → LeadsTo (shown_in hold shows false) (record_after s now0 (far_k1 false) (far_k2 false) r.sent_k1)
  open_sends hold shows which carry h =
      let here = subst OpenBy (sym (far_asked false)) h in
      let both =
      (and-eq-true_iff (answers (far false) x local)
      (second_fits r.sent_k2 (bridge (far false).channel x.channel (keeps_bridge x)))).0 here in
      let by =
      open_shown s.n s.mask s.w s.left last hold (far false) shows (held last) (held x) x which carry
      record { before = refl; possible = both.0; afterwards = refl } in
      caused_sends false (shown_in hold shows false) by both.1
