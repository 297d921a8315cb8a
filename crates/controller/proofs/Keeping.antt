-- What a step keeps: the settings, and that the record is acceptable. What it sends is a usable pair.
use mathlib.Core.Path.{◌≡◌, refl}
use mathlib.Core.Bool.{Bool, true, false, ◌&&◌, and-eq-true_iff}
use mathlib.Core.List.{List, [], ◌∷◌}
use mathlib.Core.Logic.{inl, inr}
use Prim.Native.Nat.{ℕ, ◌+◌, ◌≤◌}
use native.Mathlib.Nat.{add-zero}
use native.Mathlib.Omega.{arith}
use lib.Dec.{ltb, leb, eqb}
use lib.ListN.{length, drop}
use Rattle.std.specs.Prelude.{Ok}
use borrow.Author.Tests.{leb-true, eqb-true, eqb-false, le-leb, le-ltb, eq-eqb, ne_eqb}
use Rattle.basics.specs.Table.{every}
use Rattle.basics.specs.Settings.{sections_fit, mask_fits}
use Rattle.pair.specs.Request.{requests, carries}
use Rattle.pair.specs.Marks.{code_of, channel_of, line_bits, usable, alarm}
use Rattle.pair.specs.Coder.{encodable}
use Rattle.pair.specs.declared.Pair.{Pair}
use Rattle.pair.proofs.Coding.{UsablePair, parts_usable, bytes_usable}
use Rattle.request.specs.Command.{fate}
use Rattle.request.specs.Bridge.{bridge}
use Rattle.request.specs.declared.Request.{Request}
use Rattle.request.proofs.Channels.{bridge_within}
use Rattle.std.proofs.lemmas.Bool.{or_right}
use Rattle.controller.specs.Asking.{OfKind}
use Rattle.controller.specs.Settings.{idle_k1, none_held, fresh, making_case, making}
use Rattle.controller.specs.Rules.{asked, k1_of, accepting, is_command, held_by, kept, given, replaces_held, in_force, is_wait}
use Rattle.controller.specs.Rules.{waiting, local_request, decided, held_after, counts, left_after, keeps_bridge, k2_of}
use Rattle.controller.specs.Refusals.{wait_fits, held_fits, acceptable, conditions_fit, channel_fits, refusal}
use Rattle.controller.specs.Step.{protection, wait_of, refused_step, answering, moved, acts_on, step}
use Rattle.controller.specs.Run.{Input, input_fits, step_by, not_refused, run}
use Rattle.controller.specs.declared.Controller.{Controller}
use Rattle.controller.specs.Rules.{AcceptedPair}
use Rattle.controller.specs.Step.{Stepped}
use Rattle.controller.proofs.Usability.{idle_usable}
use Rattle.controller.proofs.Inputs.{well_formed, facts_acceptable}
use Rattle.controller.proofs.Alarm.{acts_unrefused}
use Rattle.controller.proofs.Making.{fresh_facts}
use Rattle.controller.proofs.Sendable.{Sendable, sendable_room}
use Rattle.controller.proofs.Sending.{Usable, far_usable, far_channel, stands_sendable, stands_kind, sent_sendable}
use Rattle.controller.proofs.Sending.{wait_within}

-- code and channel are read back from a K1
pub k1_back : (r : Request) → r.channel ≤ 14 → (code_of (k1_of r) ≡ r.code) × (channel_of (k1_of r) ≡ r.channel)
k1_back r h = (omega arith, omega arith)

-- what is answered once it is known what is accepted and what is sent
module _ (s : Controller) (far : AcceptedPair) (sent : Request) (now : ℕ) (stands : Request) (fate : ℕ)
    (fits : sections_fit s.n ≡ true) (accepts : Usable s.n far) (channel : far.request.channel ≤ s.n)
    (able : Sendable s.n s.mask now sent) (within : now ≤ s.w) (kind : OfKind is_command stands)
    (standing : Sendable s.n s.mask now stands) where
  abbrev answer : Stepped
  answer = answering s far sent now (held_after s.hold stands) fate

  room : (sent.code ≤ 15) × (sent.channel ≤ 14)
  room = sendable_room s.n s.mask now sent fits able

  wait_fits_lem : wait_fits sent.code s.w (left_after sent now) ≡ true
  wait_fits_lem = go (is_wait sent.code) refl
    where
      go : (t : Bool) → is_wait sent.code ≡ t → wait_fits sent.code s.w (left_after sent now) ≡ true
      go true e = let some = able.waits e in rw e (rw (le-leb 1 now some, le-leb now s.w within))
      go false e = rw e

  -- what is in force may be held
  held_right : held_fits s.n s.hold (held_after s.hold stands) ≡ true
  held_right = go s.hold kind
    where
      go : (hold : Bool) → OfKind is_command stands → held_fits s.n hold (held_after hold stands) ≡ true
      go false by = refl
      go true (inr none) = rw none
      go true (inl is) =
          let back = k1_back stands (sendable_room s.n s.mask now stands fits standing).1 in
          let command : is_command (code_of (k1_of stands)) ≡ true = rw back.0 is in
          let carried : carries requests s.n (code_of (k1_of stands)) (channel_of (k1_of stands)) ≡ true =
          rw (back.0, back.1) standing.carried in
          rw (command, carried) (or_right (eqb (k1_of stands) none_held) true refl)

  answer_acceptable : acceptable answer.controller ≡ true
  answer_acceptable =
      let back = k1_back sent room.1 in
      facts_acceptable answer.controller
      record {
        pair_usable = accepts.pair_usable;
        carried = rw (back.0, back.1) able.carried;
        coded = rw (back.0, back.1) able.coded;
        waits = rw back.0 wait_fits_lem;
        held_fits = held_right;
      }

  -- the record that the sent pair encodes, and decodes to
  abbrev sent_pair : Pair
  sent_pair =
      record {
        code = sent.code;
        channel = sent.channel;
        bridged = bridge far.request.channel sent.channel (keeps_bridge sent);
        remote = false;
      }

  answer_usable : UsablePair s.n answer.k1 answer.k2
  answer_usable =
      let b = bridge_within far.request.channel sent.channel (keeps_bridge sent) in
      let bridged : leb sent_pair.bridged s.n ≡ true = le-leb sent_pair.bridged s.n (omega arith) in
      let can : encodable s.n sent_pair ≡ true = rw (able.carried, bridged) in
      rw (← add-zero (k2_of sent_pair.bridged)) (bytes_usable s.n sent_pair fits can).0

  answer_line : line_bits answer.k2 ≡ 0
  answer_line = omega arith

-- of a step that is not refused
pub record Kept (s : Controller) (o : Stepped) : Type 0 where
  pub sections : o.controller.n ≡ s.n
  pub setting : o.controller.hold ≡ s.hold
  pub priorities : o.controller.mask ≡ s.mask
  pub wait : o.controller.w ≡ s.w
  pub accepts : acceptable o.controller ≡ true

pub record Sent (s : Controller) (o : Stepped) : Type 0 where
  pub pair_usable : usable s.n o.k1 o.k2 ≡ true
  pub line : line_bits o.k2 ≡ 0b000
  pub recorded : o.k1 ≡ o.controller.sent

module _ (s : Controller) (k1 k2 : ℕ) (conditions : List ℕ) (command c : ℕ) where
  pub step_refused : (refusal s conditions command c ≡ 0 → ⊥)
      → step s k1 k2 conditions command c ≡ refused_step (refusal s conditions command c) s
  unfolding step
  step_refused h = rw (ne_eqb (refusal s conditions command c) 0 h)

  pub unrefused : (step s k1 k2 conditions command c).refusal ≡ 0 → refusal s conditions command c ≡ 0
  unfolding step
  unrefused h = go (eqb (refusal s conditions command c) 0) refl
    where
      go : (z : Bool) → eqb (refusal s conditions command c) 0 ≡ z → refusal s conditions command c ≡ 0
      go true e = eqb-true (refusal s conditions command c) 0 e
      go false e = absurd (eqb-false (refusal s conditions command c) 0 e (rw e at h))

  -- what it acts on meets no refusal either
  pub not_refused_lem : (step s k1 k2 conditions command c).refusal ≡ 0 →
      let acts = acts_on (alarm s.n k1 k2) conditions in
      (refusal s acts command c ≡ 0) × (step s k1 k2 conditions command c ≡ moved s k1 k2 acts command c)
  unfolding step
  not_refused_lem h =
      let none = unrefused h in (
        acts_unrefused s command c (alarm s.n k1 k2) conditions none,
        rw (eq-eqb (refusal s conditions command c) 0 none),
      )

module _ (s : Controller) (k1 k2 : ℕ) (conditions : List ℕ) (command c : ℕ) where
  moved_keeps : refusal s conditions command c ≡ 0
      → Kept s (moved s k1 k2 conditions command c) × Sent s (moved s k1 k2 conditions command c)
  unfolding moved
  moved_keeps h =
      let well = well_formed s conditions command c h in
      let failed = eqb (protection conditions) 2 in
      let far = accepting s failed k1 k2 in
      let last = asked s.sent in
      let prior = kept command (held_by s.hold s.held last) in
      let new = given command c in
      let now = wait_of s last command in
      let stands = in_force (replaces_held prior new) prior new in
      let near = local_request s.mask last (protection conditions) (drop 1 conditions) stands (waiting now last) in
      let sent = decided far.request near in
      let fated = fate command (replaces_held prior new) (counts s.hold sent new) in
      let far-fits = far_usable s conditions command c well failed k1 k2 in
      let channel = far_channel s conditions command c well failed k1 k2 in
      let able = sent_sendable s conditions command c well failed k1 k2 in
      let within = wait_within s conditions command c well in
      let kind = stands_kind s conditions command c well in
      let standing = stands_sendable s conditions command c well in
      let accepts = answer_acceptable s far sent now stands fated well.fits far-fits channel able within kind standing in
      let pair = answer_usable s far sent now stands fated well.fits far-fits channel able within kind standing in
      let line = answer_line s far sent now stands fated well.fits far-fits channel able within kind standing in
      let answered = answering s far sent now (held_after s.hold stands) fated in (
        record { sections = refl; setting = refl; priorities = refl; wait = refl; accepts = accepts },
        record {
          pair_usable = parts_usable s.n answered.k1 answered.k2 pair;
          line = line;
          recorded = refl;
        },
      )

module _ (s : Controller) (k1 k2 : ℕ) (conditions : List ℕ) (command c : ℕ) where
  pub step_keeps : (step s k1 k2 conditions command c).refusal ≡ 0
      → Kept s (step s k1 k2 conditions command c) × Sent s (step s k1 k2 conditions command c)
  step_keeps h =
      let goes = not_refused_lem s k1 k2 conditions command c h in
      rw goes.1 (moved_keeps s k1 k2 (acts_on (alarm s.n k1 k2) conditions) command c goes.0)

  -- a step is not refused, if its settings, its record and its inputs meet none of the refusals
  pub step_unrefused : sections_fit s.n ≡ true → mask_fits s.n s.mask ≡ true → acceptable s ≡ true
      → input_fits s.n record { k1 = k1; k2 = k2; conditions = conditions; command = command; channel = c } ≡ true
      → (step s k1 k2 conditions command c).refusal ≡ 0
  unfolding step moved refusal
  step_unrefused fits mask_Fits accepts input =
      let last =
      (and-eq-true_iff
      (eqb (length conditions) (s.n + 1) && conditions_fit conditions && leb command 4)
      (channel_fits s.n command c)).0 input in
      let third =
      (and-eq-true_iff (eqb (length conditions) (s.n + 1) && conditions_fit conditions) (leb command 4)).0 last.0 in
      let two = (and-eq-true_iff (eqb (length conditions) (s.n + 1)) (conditions_fit conditions)).0 third.0 in
      let command_fits : ltb 4 command ≡ false = le-ltb 4 command (leb-true command 4 third.1) in
      rw (fits, mask_Fits, accepts, two.0, two.1, command_fits, last.1)

pub fresh_acceptable : (n : ℕ) (hold : Bool) (mask w : ℕ) → sections_fit n ≡ true → acceptable (fresh n hold mask w) ≡ true
unfolding carries
fresh_acceptable n hold mask w fits =
    facts_acceptable (fresh n hold mask w)
    record {
      pair_usable = idle_usable n idle_k1 fits;
      carried = refl;
      coded = refl;
      waits = refl;
      held_fits = refl;
    }

run_unrefused : (inputs : List Input) (s : Controller) → sections_fit s.n ≡ true → mask_fits s.n s.mask ≡ true
    → acceptable s ≡ true → every (input_fits s.n) inputs ≡ true → every not_refused (run s inputs) ≡ true
run_unrefused [] s fits mask_Fits accepts well = refl
run_unrefused (i ∷ rest) s fits mask_Fits accepts well =
    let both = (and-eq-true_iff (input_fits s.n i) (every (input_fits s.n) rest)).0 well in
    let first = step_unrefused s i.k1 i.k2 i.conditions i.command i.channel fits mask_Fits accepts both.0 in
    let kept = (step_keeps s i.k1 i.k2 i.conditions i.command i.channel first).0 in
    rw first
    (run_unrefused rest (step_by s i).controller (rw kept.sections fits) (rw (kept.sections, kept.priorities) mask_Fits)
    kept.accepts (rw kept.sections both.1))

-- a record that was made fresh
module _ (n : ℕ) (hold : Bool) (mask w : ℕ) (s : Controller) (h : making_case (making n hold mask w) ≡ Ok s) where
  pub made_acceptable : acceptable s ≡ true
  made_acceptable = let facts = fresh_facts n hold mask w s h in rw facts.0 (fresh_acceptable n hold mask w facts.1)

  pub made_run_unrefused : (inputs : List Input) → every (input_fits n) inputs ≡ true → every not_refused (run s inputs) ≡ true
  made_run_unrefused inputs well =
      let facts = fresh_facts n hold mask w s h in
      rw facts.0
      (run_unrefused inputs (fresh n hold mask w) facts.1 facts.2 (fresh_acceptable n hold mask w facts.1) well)
