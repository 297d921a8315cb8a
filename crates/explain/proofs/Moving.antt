-- A step that is not refused, taken apart, with hold or without; and the step of the controller whose record differs in the
-- setting and in what is held: where it sends the same, by another command, it leaves the same record but for these two.
use mathlib.Core.Path.{◌≡◌, refl, sym, ap, subst, ◌∙◌}
use mathlib.Core.Bool.{Bool, true}
use mathlib.Core.List.{List}
use Prim.Native.Nat.{ℕ, ◌+◌, ◌≤◌}
use lib.Dec.{eqb}
use lib.ListN.{length, drop}
use borrow.Author.Tests.{eq-eqb, le-leb}
use Rattle.basics.specs.Capture.{Row}
use Rattle.pair.specs.Marks.{alarm}
use Rattle.request.specs.Bridge.{bridge}
use Rattle.request.specs.declared.Request.{Request}
use Rattle.controller.specs.Rules.{asked, k1_of, accepting, held_by, kept, given, replaces_held, in_force, waiting, local_request}
use Rattle.controller.specs.Rules.{decided, held_after, left_after, keeps_bridge, k2_of}
use Rattle.controller.specs.Refusals.{acceptable, channel_fits}
use Rattle.controller.specs.Step.{protection, wait_of, moved, acts_on}
use Rattle.controller.specs.declared.Controller.{Controller}
use Rattle.controller.specs.Step.{Stepped}
use Rattle.controller.proofs.Inputs.{WellFormed, well_formed}
use Rattle.controller.proofs.Sendable.{Sendable, sendable_room}
use Rattle.controller.proofs.Sending.{sent_sendable}
use Rattle.controller.proofs.Keeping.{k1_back, unrefused, not_refused_lem, step_unrefused}
use Rattle.explain.specs.Explained.{Cause, stepped, Sends}
use Rattle.explain.specs.Hold.{recast}

-- a record with other values behind its settings: the accepted pair, the K1 last sent, the wait left, the held command
abbrev pub left_by : Controller → ℕ → ℕ → ℕ → ℕ → ℕ → Controller
left_by s k1 k2 sent left held =
    record {
      n = s.n;
      hold = s.hold;
      mask = s.mask;
      w = s.w;
      k1 = k1;
      k2 = k2;
      sent = sent;
      left = left;
      held = held;
    }

-- the command in force, by the one that was held
abbrev pub stands_for : Request → ℕ → ℕ → Request
stands_for holds command c =
    let prior = kept command holds in
    in_force (replaces_held prior (given command c)) prior (given command c)

module _ (s : Controller) (k1 k2 : ℕ) (acts : List ℕ) where
  -- the pair that is accepted, and what it asks for
  abbrev pub far_k1 : ℕ
  far_k1 = (accepting s (eqb (protection acts) 2) k1 k2).k1

  abbrev pub far_k2 : ℕ
  far_k2 = (accepting s (eqb (protection acts) 2) k1 k2).k2

  abbrev pub far_in : Request
  far_in = (accepting s (eqb (protection acts) 2) k1 k2).request

  -- what is sent, with this command in force and so much wait
  abbrev pub sent_with : Request → ℕ → Request
  sent_with stands now =
      decided far_in
      (local_request s.mask (asked s.sent) (protection acts) (drop 1 acts) stands (waiting now (asked s.sent)))

  module _ (command c : ℕ) where
    abbrev pub stands_in : Request
    stands_in = stands_for (held_by s.hold s.held (asked s.sent)) command c

    abbrev pub now_in : ℕ
    now_in = wait_of s (asked s.sent) command

    abbrev pub sent_in : Request
    sent_in = sent_with stands_in now_in

    pub record Moves (o : Stepped) : Type 0 where
      pub first : o.k1 ≡ k1_of sent_in
      pub second : o.k2 ≡ k2_of (bridge far_in.channel sent_in.channel (keeps_bridge sent_in))
      pub after :
          o.controller ≡ left_by s far_k1 far_k2 (k1_of sent_in) (left_after sent_in now_in) (held_after s.hold stands_in)

    pub moved_parts : Moves (moved s k1 k2 acts command c)
    unfolding moved
    moved_parts = record { first = refl; second = refl; after = refl }

-- what a row's step acts on
abbrev pub acts_in : Controller → Cause → Row → List ℕ
acts_in s cause r = acts_on (alarm s.n r.k1 r.k2) cause.conditions

pub step_moves : (s : Controller) (cause : Cause) (r : Row) → (stepped s cause r).refusal ≡ 0
    → Moves s r.k1 r.k2 (acts_in s cause r) cause.command cause.channel (stepped s cause r)
step_moves s cause r goes =
    subst (Moves s r.k1 r.k2 (acts_in s cause r) cause.command cause.channel)
    (sym (not_refused_lem s r.k1 r.k2 cause.conditions cause.command cause.channel goes).1)
    (moved_parts s r.k1 r.k2 (acts_in s cause r) cause.command cause.channel)

pub step_well : (s : Controller) (cause : Cause) (r : Row) → (stepped s cause r).refusal ≡ 0
    → WellFormed s cause.conditions cause.command cause.channel
step_well s cause r goes =
    well_formed s cause.conditions cause.command cause.channel
    (unrefused s r.k1 r.k2 cause.conditions cause.command cause.channel goes)

-- what it sends may be sent, and is what the row's K1 asks for
module _ (s : Controller) (cause : Cause) (r : Row) (goes : (stepped s cause r).refusal ≡ 0) where
  abbrev pub sent_by : Request
  sent_by = sent_in s r.k1 r.k2 (acts_in s cause r) cause.command cause.channel

  pub acts_well : WellFormed s (acts_in s cause r) cause.command cause.channel
  acts_well =
      well_formed s (acts_in s cause r) cause.command cause.channel
      (not_refused_lem s r.k1 r.k2 cause.conditions cause.command cause.channel goes).0

  pub sent_able : Sendable s.n s.mask (wait_of s (asked s.sent) cause.command) sent_by
  sent_able =
      sent_sendable s (acts_in s cause r) cause.command cause.channel acts_well
      (eqb (protection (acts_in s cause r)) 2) r.k1 r.k2

  pub sent_back : asked (k1_of sent_by) ≡ sent_by
  sent_back =
      let room = sendable_room s.n s.mask _ sent_by acts_well.fits sent_able in
      let back = k1_back sent_by room.1 in
      λ i. record { code = back.0 i; channel = back.1 i }

module _ (s : Controller) (cause : Cause) (r : Row) (sends : Sends (stepped s cause r) r) where
  first_sent : k1_of (sent_by s cause r sends.not_refused) ≡ r.sent_k1
  first_sent = sym (step_moves s cause r sends.not_refused).first ∙ sends.first

  pub sent_asked : sent_by s cause r sends.not_refused ≡ asked r.sent_k1
  sent_asked = sym (sent_back s cause r sends.not_refused) ∙ ap asked first_sent

  pub sent_left : (stepped s cause r).controller.sent ≡ r.sent_k1
  sent_left = ap (λ (u : Controller). u.sent) (step_moves s cause r sends.not_refused).after ∙ first_sent

module _ (s : Controller) (hold : Bool) (held : ℕ) (cause : Cause) (r : Row) (command c : ℕ) where
  abbrev other : Controller
  other = recast hold held s

  -- the same conditions, with another command
  abbrev pub given_instead : Cause
  given_instead = record { conditions = cause.conditions; command = command; channel = c }

  abbrev acts : List ℕ
  acts = acts_in s cause r

  abbrev sent : Request
  sent = sent_in s r.k1 r.k2 acts cause.command cause.channel

  abbrev stands : Request
  stands = stands_for (held_by hold held (asked s.sent)) command c

  -- the other accepts the same
  far_same : far_in other r.k1 r.k2 acts ≡ far_in s r.k1 r.k2 acts
  unfolding accepting
  far_same = refl

  k1_same : far_k1 other r.k1 r.k2 acts ≡ far_k1 s r.k1 r.k2 acts
  unfolding accepting
  k1_same = refl

  k2_same : far_k2 other r.k1 r.k2 acts ≡ far_k2 s r.k1 r.k2 acts
  unfolding accepting
  k2_same = refl

  module _ (sends : Sends (stepped s cause r) r) (accepts : acceptable other ≡ true) (known : command ≤ 4)
      (fits : channel_fits s.n command c ≡ true)
      (same : sent_with s r.k1 r.k2 acts stands (wait_of s (asked s.sent) command) ≡ sent)
      (waits : left_after sent (wait_of s (asked s.sent) command)
      ≡ left_after sent (wait_of s (asked s.sent) cause.command)) where
    well : WellFormed s cause.conditions cause.command cause.channel
    well = step_well s cause r sends.not_refused

    goes : (stepped other given_instead r).refusal ≡ 0
    goes =
        let number = eq-eqb (length cause.conditions) (s.n + 1) well.number in
        step_unrefused other r.k1 r.k2 cause.conditions command c well.fits well.mask_fits accepts
        (rw (number, well.conditions_fit, le-leb command 4 known, fits))

    moves : Moves other r.k1 r.k2 acts command c (stepped other given_instead r)
    moves = step_moves other given_instead r goes

    moves_same : Moves s r.k1 r.k2 acts cause.command cause.channel (stepped s cause r)
    moves_same = step_moves s cause r sends.not_refused

    sent_same : sent_in other r.k1 r.k2 acts command c ≡ sent
    sent_same =
        ap
        (λ (far : Request).
        decided far
        (local_request s.mask (asked s.sent) (protection acts) (drop 1 acts) stands
        (waiting (wait_of s (asked s.sent) command) (asked s.sent)))) far_same
        ∙ same

    pub recast_sends : Sends (stepped other given_instead r) r
    recast_sends =
        record {
          not_refused = goes;
          first = moves.first ∙ ap k1_of sent_same ∙ sym moves_same.first ∙ sends.first;
          second =
              moves.second
              ∙ (λ i. k2_of (bridge (far_same i).channel (sent_same i).channel (keeps_bridge (sent_same i))))
              ∙ sym moves_same.second
              ∙ sends.second;
        }

    pub recast_left :
        (stepped other given_instead r).controller
        ≡ recast hold (held_after hold stands) (stepped s cause r).controller
    recast_left =
        moves.after
        ∙ (λ i.
        left_by other (k1_same i) (k2_same i) (k1_of (sent_same i))
        (left_after (sent_same i) (wait_of s (asked s.sent) command)) (held_after hold stands))
        ∙ (λ i.
        left_by other (far_k1 s r.k1 r.k2 acts) (far_k2 s r.k1 r.k2 acts) (k1_of sent) (waits i)
        (held_after hold stands))
        ∙ sym (ap (recast hold (held_after hold stands)) moves_same.after)
