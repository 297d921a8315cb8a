-- Without hold and then with it: what is sent under the cause that is shown with hold is sent by the controller with hold too, and
-- it then holds just what was sent, if that is a command.
use mathlib.Core.Path.{◌≡◌, refl, sym, ap, subst, ◌∙◌}
use mathlib.Core.Bool.{Bool, true, false, not, ◌&&◌, false≢true, true≢false}
use mathlib.Core.List.{List}
use mathlib.Core.Logic.{inl, inr}
use Prim.Native.Nat.{ℕ, ◌<◌}
use native.Mathlib.Omega.{arith}
use lib.Dec.{ltb, leb, eqb}
use lib.ListN.{drop}
use borrow.Author.Tests.{ltb-false}
use Rattle.basics.specs.Capture.{Row}
use Rattle.std.specs.Prelude.{if◌then◌else◌}
use Rattle.pair.specs.Request.{requests, carries, rank_in, rank_of}
use Rattle.pair.specs.Marks.{code_of, channel_of, usable}
use Rattle.request.specs.declared.Request.{Request}
use Rattle.std.proofs.lemmas.Bool.{or_right, or_parts}
use Rattle.controller.specs.Settings.{idle_k1, idle_k2, none_held, fresh}
use Rattle.controller.specs.Rules.{no_request, asked, k1_of, rank_of_request, is_command, held, held_by, is_wait, waiting}
use Rattle.controller.specs.Refusals.{held_fits, acceptable}
use Rattle.controller.specs.Step.{protection, wait_of}
use Rattle.controller.specs.declared.Controller.{Controller}
use Rattle.controller.proofs.Apart.{wait_kind}
use Rattle.controller.proofs.Inputs.{WellFormed, acceptable_facts, facts_acceptable}
use Rattle.explain.specs.Explained.{Cause, stepped, Sends}
use Rattle.explain.specs.Cause.{louder, deciding, command_for, channel_for, is_louder}
use Rattle.explain.specs.Hold.{recast, remembering, with_hold}
use Rattle.explain.specs.Trace.{start, live, accepted_byte, next}
use Rattle.explain.specs.declared.Records.{Records}
use Rattle.explain.proofs.Local.{wait_unclear}
use Rattle.explain.proofs.Witness.{held_none}
use Rattle.explain.proofs.Moving.{stands_for, far_in, sent_with, stands_in, acts_in, step_well, sent_able, sent_asked, sent_left}
use Rattle.explain.proofs.Moving.{recast_sends, recast_left}
use Rattle.explain.proofs.Without.{sent_command}
use Rattle.explain.proofs.Reached.{Able}
use Rattle.explain.proofs.Possible.{In, flag, pick, pick_in, in_pick, holding, cause_shown, failed_by, idle_by, next_led, next_in}

pub fresh_held : (n : ℕ) (hold : Bool) (mask w : ℕ) → with_hold hold (fresh n false mask w) ≡ fresh n hold mask w
fresh_held n true mask w = refl
fresh_held n false mask w = refl

-- a command is read back from its K1
k1_whole : (k1 : ℕ) → asked (k1_of (asked k1)) ≡ asked k1
k1_whole k1 =
    let whole : k1_of (asked k1) ≡ k1 = omega arith in ap asked whole

held_back : (k1 : ℕ) → asked (k1_of (held (asked k1))) ≡ held (asked k1)
held_back k1 = go (is_command (code_of k1)) refl
  where
    go : (t : Bool) → is_command (code_of k1) ≡ t → asked (k1_of (held (asked k1))) ≡ held (asked k1)
    go true e = rw e (k1_whole k1)
    go false e = rw e refl

-- the command in force under the cause that is shown with hold
module _ (last x : Request) (loud : Bool) (commands : is_command x.code ≡ true
    → stands_for (held last) (command_for last x loud) (channel_for last x) ≡ x)
    (waits : is_wait x.code ≡ true → held last ≡ no_request)
    (drops : loud ≡ false → rank_of_request (held last) ≡ 0) where
  abbrev Drops : ℕ → ℕ → Type 0
  Drops command c = stands_for (held last) command c ≡ no_request

  dropped_none : rank_of_request (held last) ≡ 0 → Drops 0 0
  dropped_none zero = rw zero

  dropped : (t : Bool) → not (is_wait x.code) && loud ≡ t → Drops (if t then 1 else 0) 0
  unfolding rank_of rank_in
  dropped true e = refl
  dropped false e = go (is_wait x.code) loud refl refl e
    where
      go : (w l : Bool) → is_wait x.code ≡ w → loud ≡ l → not w && l ≡ false → Drops 0 0
      go true l f g k = rw (waits f)
      go false true f g k = absurd (true≢false k)
      go false false f g k = dropped_none (drops g)

  shown_stands : stands_for (held last) (command_for last x loud) (channel_for last x) ≡ held x
  shown_stands = go (is_command x.code) refl
    where
      go : (t : Bool) → is_command x.code ≡ t
          → stands_for (held last) (command_for last x loud) (channel_for last x) ≡ held x
      go true e = commands e ∙ rw e
      go false e = rw e (dropped (not (is_wait x.code) && loud) refl)

module _ (s : Controller) (cause : Cause) (r : Row) (able : Able s) (sends : Sends (stepped s cause r) r) where
  abbrev last : Request
  last = asked s.sent

  abbrev x : Request
  x = asked r.sent_k1

  abbrev t : Controller
  t = remembering s

  goes : (stepped s cause r).refusal ≡ 0
  goes = sends.not_refused

  accepts : acceptable t ≡ true
  accepts =
      let facts = acceptable_facts s able.accepts in
      facts_acceptable t
      record {
        pair_usable = facts.pair_usable;
        carried = facts.carried;
        coded = facts.coded;
        waits = facts.waits;
        held_fits = go (is_command (code_of s.sent)) refl facts.carried;
      }
    where
      go : (b : Bool) → is_command (code_of s.sent) ≡ b → carries requests s.n (code_of s.sent) (channel_of s.sent) ≡ true
          → held_fits s.n true (k1_of (held last)) ≡ true
      go true e carried =
          let whole : k1_of last ≡ s.sent = omega arith in
          rw e (rw whole (rw (e, carried) (or_right (eqb s.sent none_held) true refl)))
      go false e carried = rw e refl

  -- both machines have the same command held
  same_held : held_by true (k1_of (held last)) last ≡ held_by s.hold s.held last
  same_held = held_back s.sent ∙ ap (λ (b : Bool). held_by b s.held last) (sym able.off)

  read_off : held_by s.hold s.held last ≡ held last
  read_off = ap (λ (b : Bool). held_by b s.held last) able.off

  abbrev acts : List ℕ
  acts = acts_in s cause r

  -- a command that is sent is the one in force
  pub command_stands : is_command x.code ≡ true → stands_for (held last) cause.command cause.channel ≡ x
  command_stands is =
      let sent = sent_asked s cause r sends in
      ap (λ (y : Request). stands_for y cause.command cause.channel) (sym read_off)
      ∙ sent_command s.mask (protection acts) (drop 1 acts) last (waiting (wait_of s last cause.command) last)
      (wait_kind (wait_of s last cause.command) last) (far_in s r.k1 r.k2 acts)
      (stands_in s r.k1 r.k2 acts cause.command cause.channel)
      (subst (λ (y : Request). is_command y.code ≡ true) (sym sent) is)
      ∙ sent

  -- behind a command no wait runs
  pub wait_none : is_wait x.code ≡ true → held last ≡ no_request
  wait_none is =
      let sent = sent_asked s cause r sends in
      let able = sent_able s cause r goes in
      let some = able.waits (subst (λ (y : Request). is_wait y.code ≡ true) (sym sent) is) in
      let same = wait_unclear s.mask s.w s.left last cause.command some in
      held_none s.mask s.w s.left last (subst (λ (k : ℕ). 0 < k) same some)

  module _ (keeps : stands_for (held last) cause.command cause.channel ≡ held x) where
    well : WellFormed s cause.conditions cause.command cause.channel
    well = step_well s cause r goes

    abbrev sent_as : Request → Request
    sent_as y =
        sent_with s r.k1 r.k2 acts (stands_for y cause.command cause.channel) (wait_of s last cause.command)

    pub held_sends : Sends (stepped t cause r) r
    held_sends =
        recast_sends s true (k1_of (held last)) cause r cause.command cause.channel sends accepts well.command_fits
        well.channel_fits (ap sent_as same_held) refl

    pub held_left : (stepped t cause r).controller ≡ remembering (stepped s cause r).controller
    held_left =
        let u = (stepped s cause r).controller in
        let stands : k1_of (stands_for (held_by true (k1_of (held last)) last) cause.command cause.channel) ≡ k1_of (held (asked u.sent)) =
        ap (λ (y : Request). k1_of (stands_for y cause.command cause.channel)) (held_back s.sent)
        ∙ ap k1_of keeps
        ∙ ap (λ (k : ℕ). k1_of (held (asked k))) (sym (sent_left s cause r sends)) in
        recast_left s true (k1_of (held last)) cause r cause.command cause.channel sends accepts well.command_fits
        well.channel_fits (ap sent_as same_held) refl
        ∙ ap (λ (k : ℕ). recast true k u) stands

-- with hold a clear is shown wherever a command was held and none is sent
quiet_drops : (rank prior now : ℕ) → louder true rank prior now ≡ false → prior ≡ 0
quiet_drops rank prior now quiet = go (ltb 0 prior) refl (or_parts (ltb 0 prior && true) (ltb 0 now && leb rank 2) quiet).0
  where
    go : (t : Bool) → ltb 0 prior ≡ t → t && true ≡ false → prior ≡ 0
    go true e h = absurd (true≢false h)
    go false e h = let most = ltb-false 0 prior e in omega arith

-- one row: the record with hold that holds what was last sent goes on to such a record, under the cause that is shown
module _ (d : Records) (r : Row) (good : (s : Controller) → In d s → Able s) where
  abbrev base : Controller
  base = d.controller

  abbrev shown : Bool → Cause
  shown failed = cause_shown d r true failed

  abbrev HeldLed : Bool → Controller → Controller → Type 0
  HeldLed failed u s =
      Sends (stepped (remembering s) (shown failed) r) r
      × (remembering u ≡ (stepped (remembering s) (shown failed) r).controller)

  -- from a record that was open, with the pair that it has accepted
  led : (failed : Bool) (k1 k2 : ℕ) → Able (holding d r k1 k2) → (u : Controller)
      → Sends (stepped (holding d r k1 k2) (shown failed) r) r → u ≡ (stepped (holding d r k1 k2) (shown failed) r).controller
      → HeldLed failed u (holding d r k1 k2)
  led failed k1 k2 able u sends is =
      let s = holding d r k1 k2 in
      let last = asked base.sent in
      let x = asked r.sent_k1 in
      let heard = asked (accepted_byte (usable base.n r.k1 r.k2) r.k1 base.k1) in
      let now = wait_of base last 0 in
      let keeps =
      shown_stands last x (is_louder true now last heard x) (command_stands s (shown failed) r able sends)
      (wait_none s (shown failed) r able sends)
      (quiet_drops (deciding (rank_of_request heard) x (rank_of_request x)) (rank_of_request (held last)) now) in (
        held_sends s (shown failed) r able sends keeps,
        ap remembering is ∙ sym (held_left s (shown failed) r able sends keeps),
      )

  picked : (failed b : Bool) → flag d b ≡ true → (u : Controller) → Sends (stepped (pick d b) (shown failed) r) r
      → u ≡ (stepped (pick d b) (shown failed) r).controller → HeldLed failed u (pick d b)
  picked failed true e u sends is = led failed idle_k1 idle_k2 (good (pick d true) (pick_in d true e)) u sends is
  picked failed false e u sends is = led failed base.k1 base.k2 (good (pick d false) (pick_in d false e)) u sends is

-- the same with the setting
pub held_led : (hold : Bool) (d : Records) (r : Row) → ((s : Controller) → In d s → Able s) → live d ≡ true → (idle : Bool)
    → flag (next d r) idle ≡ true →
    let before = with_hold hold (pick d (idle_by d r idle)) in
    let cause = cause_shown d r hold (failed_by d r idle) in
    (flag d (idle_by d r idle) ≡ true)
    × (Sends (stepped before cause r) r × (with_hold hold (pick (next d r) idle) ≡ (stepped before cause r).controller))
held_led false d r good alive idle was = next_led d r false good alive idle was
held_led true d r good alive idle was =
    let (e, (sends, is)) = next_led d r true good alive idle was in
    (e, picked d r good (failed_by d r idle) (idle_by d r idle) e (pick (next d r) idle) sends is)

-- One step without hold, and one with it that sends the same, from the record that holds what was last sent to one that holds
-- what is sent.
pub remembers : (s : Controller) (c : Cause) (r : Row) → Able s → Sends (stepped s c r) r
    → (c' : Cause)
    × Sends (stepped (remembering s) c' r) r
    × ((stepped (remembering s) c' r).controller ≡ remembering (stepped s c r).controller)
remembers s c r able sends =
    let (idle, e, is) = in_pick (next (start s) r) u ((next_in (start s) r true good u refl).1 (s, c, inl (refl, refl), sends, refl)) in
    go (idle_by (start s) r idle) (failed_by (start s) r idle) is (held_led true (start s) r good refl idle e)
  where
    good : (t : Controller) → In (start s) t → Able t
    good t (inl (e, is)) = rw is able
    good t (inr (e, is)) = absurd (false≢true e)

    u : Controller
    u = (stepped s c r).controller

    go : (b failed : Bool) {v : Controller} → u ≡ v → (flag (start s) b ≡ true)
        × (Sends (stepped (remembering (pick (start s) b)) (cause_shown (start s) r true failed) r) r
        × (remembering v ≡ (stepped (remembering (pick (start s) b)) (cause_shown (start s) r true failed) r).controller))
        → (c' : Cause)
        × Sends (stepped (remembering s) c' r) r
        × ((stepped (remembering s) c' r).controller ≡ remembering u)
    go true failed is (e, sent) = absurd (false≢true e)
    go false failed is (e, (sent, left)) = (cause_shown (start s) r true failed, sent, sym left ∙ ap remembering (sym is))
