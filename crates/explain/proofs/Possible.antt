-- The two flags hold the set of records that some causes can have reached, no more and no less.
use mathlib.Core.Path.{◌≡◌, refl, sym, ap, subst, ◌∙◌}
use mathlib.Core.Bool.{Bool, true, false, not, ◌&&◌, ◌||◌, and-eq-true_iff, false≢true}
use mathlib.Core.Logic.{◌↔◌, ◌⊎◌, inl, inr, ⊎_elim}
use Prim.Native.Nat.{ℕ}
use Rattle.std.specs.Prelude.{if◌then◌else◌}
use Rattle.pair.specs.Request.{requests, carries}
use Rattle.pair.specs.Marks.{usable, alarm, alarm_in}
use Rattle.pair.proofs.Coding.{alarm_test}
use Rattle.pair.proofs.Rows.{and_true}
use Rattle.request.specs.Order.{may_win}
use Rattle.request.specs.declared.Request.{Request}
use Rattle.std.proofs.lemmas.Bool.{or_cases, or_right}
use Rattle.controller.specs.Settings.{idle_k1, idle_k2}
use Rattle.controller.specs.Rules.{asked, rank_of_request}
use Rattle.controller.specs.Step.{wait_of}
use Rattle.controller.specs.declared.Controller.{Controller}
use Rattle.controller.proofs.Apart.{none_rank}
use Rattle.basics.specs.Capture.{Row}
use Rattle.explain.specs.Explained.{Cause, stepped, Sends}
use Rattle.explain.specs.Cause.{cause_for}
use Rattle.explain.specs.Trace.{idled, live, opens, local_in, hidden_in, record_after, accepted_byte, next}
use Rattle.explain.specs.declared.Records.{Records}
use Rattle.explain.proofs.Alarmed.{quieted, failed_leads, alarm_exact}
use Rattle.explain.proofs.Reached.{Able, far_accepted, far_asked, failed_reached, sends_reached, failed_sends, open_sends}

-- the records that the flags leave open
abbrev pub In : Records → Controller → Type 0
In d s = ((d.heard ≡ true) × (s ≡ d.controller)) ⊎ ((d.idle ≡ true) × (s ≡ idled d.controller))

-- the record of one of the flags: with 00 08 accepted, or not
abbrev pub flag : Records → Bool → Bool
flag d idle = if idle then d.idle else d.heard

abbrev pub pick : Records → Bool → Controller
pick d idle = if idle then idled d.controller else d.controller

pub pick_in : (d : Records) (idle : Bool) → flag d idle ≡ true → In d (pick d idle)
pick_in d true e = inr (e, refl)
pick_in d false e = inl (e, refl)

pub in_pick : (d : Records) (s : Controller) → In d s → (idle : Bool) × (flag d idle ≡ true) × (s ≡ pick d idle)
in_pick d s (inl (e, is)) = (false, e, is)
in_pick d s (inr (e, is)) = (true, e, is)

-- one that is open, if any is
pub any_flag : (d : Records) → live d ≡ true → flag d (not d.heard) ≡ true
any_flag d alive = go d.heard refl
  where
    go : (t : Bool) → d.heard ≡ t → flag d (not d.heard) ≡ true
    go true e = rw e refl
    go false e = rw e (rw e at alive)

pub live_in : (d : Records) → (live d ≡ true) ↔ ((s : Controller) × In d s)
live_in d = (forward, backward)
  where
    forward : live d ≡ true → (s : Controller) × In d s
    forward h =
        ⊎_elim (λ e. (d.controller, inl (e, refl))) (λ e. (idled d.controller, inr (e, refl)))
        (or_cases d.heard d.idle h)

    backward : (s : Controller) × In d s → live d ≡ true
    backward (s, inl h) = rw h.0
    backward (s, inr h) = rw h.0 (or_right d.heard true refl)

or_none : (a : Bool) → a || false ≡ true → a ≡ true
or_none true h = refl
or_none false h = h

module _ (d : Records) (r : Row) where
  abbrev base : Controller
  base = d.controller

  -- it with a pair accepted
  abbrev pub holding : ℕ → ℕ → Controller
  holding k1 k2 =
      record {
        n = base.n;
        hold = base.hold;
        mask = base.mask;
        w = base.w;
        k1 = k1;
        k2 = k2;
        sent = base.sent;
        left = base.left;
        held = base.held;
      }

  abbrev x : Request
  x = asked r.sent_k1

  abbrev now : ℕ
  now = wait_of base (asked base.sent) 0

  abbrev hidden : Bool
  hidden = hidden_in base x r.sent_k2

  abbrev opened : ℕ → Bool
  opened k1 = opens k1 x r.sent_k2 (local_in base x)

  abbrev after : ℕ → ℕ → Controller
  after k1 k2 = record_after base now k1 k2 r.sent_k1

  abbrev fits : Bool
  fits = usable base.n r.k1 r.k2

  -- the records behind the row, where the received pair is usable, and where it is not
  abbrev replaced : Records
  replaced = record { controller = after r.k1 r.k2; heard = opened r.k1; idle = hidden }

  abbrev kept : Records
  kept =
      record {
        controller = after base.k1 base.k2;
        heard = opened base.k1 && d.heard;
        idle = opened idle_k1 && d.idle || hidden;
      }

  -- and where an alarm is received: one record at most
  abbrev alarmed : Records
  alarmed =
      record {
        controller = after (accepted_byte fits r.k1 base.k1) (accepted_byte fits r.k2 base.k2);
        heard = false;
        idle = hidden;
      }

  abbrev sendable : Bool
  sendable = carries requests base.n x.code x.channel

  -- nothing is left
  next_lost : sendable ≡ false → ((next d r).heard ≡ false) × ((next d r).idle ≡ false)
  unfolding next
  next_lost e = (rw e, rw e)

  -- so what leaves something is sent by a controller
  pub live_sendable : live (next d r) ≡ true → sendable ≡ true
  live_sendable goes = go sendable refl
    where
      go : (t : Bool) → sendable ≡ t → sendable ≡ true
      go true e = e
      go false e =
          let none = next_lost e in
          absurd (false≢true (sym (λ i. none.0 i || none.1 i) ∙ goes))

  next_replaced : sendable ≡ true → alarm_in r.k2 ≡ false → fits ≡ true → next d r ≡ replaced
  unfolding next
  next_replaced e q f = rw (e, q, f, and_true (opened r.k1))

  next_kept : sendable ≡ true → alarm_in r.k2 ≡ false → fits ≡ false → next d r ≡ kept
  unfolding next
  next_kept e q f = rw (e, q, f)

  next_alarmed : sendable ≡ true → alarm_in r.k2 ≡ true → next d r ≡ alarmed
  unfolding next
  next_alarmed e q = rw (e, q)

  -- the cause that is shown: for the pair that is accepted unless section 0 has failed
  abbrev shows : Request
  shows = asked (accepted_byte fits r.k1 base.k1)

  abbrev pub cause_shown : Bool → Bool → Cause
  cause_shown hold failed = cause_for base.n hold base.mask now (asked base.sent) shows failed x

  abbrev pub failed_by : Bool → Bool
  failed_by idle = idle && hidden

  abbrev pub idle_by : Bool → Bool
  idle_by idle = if idle && not hidden then true else not d.heard

  module _ (hold : Bool) (good : (s : Controller) → In d s → Able s) where
    abbrev From : Controller → Type 0
    From u = (s : Controller) × (c : Cause) × In d s × Sends (stepped s c r) r × (u ≡ (stepped s c r).controller)

    -- Each record that is left open behind the row is left by one that was open before it, under the cause that is shown: where
    -- section 0 may have failed, it had; where it had not, the record with 00 08 accepted stood so before; else any will do.
    abbrev LedBy : Bool → Controller → Controller → Type 0
    LedBy failed u s =
        Sends (stepped s (cause_shown hold failed) r) r × (u ≡ (stepped s (cause_shown hold failed) r).controller)

    abbrev pub Led : Bool → Controller → Type 0
    Led idle u = (flag d (idle_by idle) ≡ true) × LedBy (failed_by idle) u (pick d (idle_by idle))

    -- from any record that is open, with the pair that it has accepted
    abbrev FromEach : Bool → Controller → Type 0
    FromEach failed u = (k1 k2 : ℕ) → In d (holding k1 k2) → LedBy failed u (holding k1 k2)

    picked : (failed : Bool) (u : Controller) → FromEach failed u → (idle : Bool) → flag d idle ≡ true
        → LedBy failed u (pick d idle)
    picked failed u each true e = each idle_k1 idle_k2 (inr (e, refl))
    picked failed u each false e = each base.k1 base.k2 (inl (e, refl))

    from_any : live d ≡ true → (failed : Bool) (u : Controller) → FromEach failed u
        → (flag d (not d.heard) ≡ true) × LedBy failed u (pick d (not d.heard))
    from_any alive failed u each = let e = any_flag d alive in (e, picked failed u each (not d.heard) e)

    hidden_led : live d ≡ true → hidden ≡ true → FromEach true (after idle_k1 idle_k2) → Led true (after idle_k1 idle_k2)
    hidden_led alive h each = rw h (from_any alive true (after idle_k1 idle_k2) each)

    module _ (loud : alarm_in r.k2 ≡ true) where
      rings : (n : ℕ) → alarm n r.k1 r.k2 ≡ true
      rings n = alarm_test n r.k1 r.k2 ∙ loud

      by_failed : sendable ≡ true → hidden ≡ true → FromEach true (after idle_k1 idle_k2)
      by_failed can h k1 k2 i =
          let s = holding k1 k2 in
          failed_leads s r (rings s.n) (cause_shown hold true) refl (after idle_k1 idle_k2)
          (failed_sends s (quieted r) (good s i) (alarm_test s.n idle_k1 idle_k2) hold shows can h)

      alarmed_led : live d ≡ true → sendable ≡ true → (idle : Bool) → flag alarmed idle ≡ true
          → Led idle (pick alarmed idle)
      alarmed_led alive can true h = hidden_led alive h (by_failed can h)
      alarmed_led alive can false h = absurd (false≢true h)

      by_alarm : (k1 k2 : ℕ) (s : Controller) → In d s → s ≡ holding k1 k2 → (c : Cause) → Sends (stepped s c r) r
          → (u : Controller) → u ≡ (stepped s c r).controller → (sendable ≡ true) × In alarmed u
      by_alarm k1 k2 s i is c sends u k =
          let (by, failed, sent, is') = (alarm_exact s r (rings s.n) u).0 (c, sends, k) in
          let reached =
          failed_reached s (quieted r) (good s i) (alarm_test s.n idle_k1 idle_k2) by sent failed in
          let left : u ≡ record_after s (wait_of s (asked s.sent) 0) idle_k1 idle_k2 r.sent_k1 =
          is' ∙ reached.2 in
          (rw is at reached.0, inr (rw is at reached.1, rw is at left))

      out_of_alarmed : (u : Controller) → From u → (sendable ≡ true) × In alarmed u
      out_of_alarmed u (s, c, inl (e, is), sends, k) =
          by_alarm base.k1 base.k2 s (inl (e, is)) is c sends u k
      out_of_alarmed u (s, c, inr (e, is), sends, k) = by_alarm idle_k1 idle_k2 s (inr (e, is)) is c sends u k

    module _ (quiet : alarm_in r.k2 ≡ false) where
      still : (n : ℕ) → alarm n r.k1 r.k2 ≡ false
      still n = alarm_test n r.k1 r.k2 ∙ quiet

      -- by a failed section 0, whatever was accepted before
      by_hidden : sendable ≡ true → hidden ≡ true → FromEach true (after idle_k1 idle_k2)
      by_hidden can h k1 k2 i = let s = holding k1 k2 in failed_sends s r (good s i) (still s.n) hold shows can h

      -- by the pair that is then accepted, where k1 k2 was before: the one that is shown, or it asks for nothing
      by_accepted : (k1 k2 : ℕ) → In d (holding k1 k2) → (t : Bool) → fits ≡ t → sendable ≡ true →
          let k1' = accepted_byte t r.k1 k1 in
          (asked k1' ≡ shows) ⊎ (may_win (rank_of_request (asked k1')) ≡ false) → opened k1' ≡ true
          → LedBy false (after k1' (accepted_byte t r.k2 k2)) (holding k1 k2)
      by_accepted k1 k2 i t f can which h =
          let s = holding k1 k2 in
          let stood = far_accepted s r (good s i) (still s.n) t f in
          let asks = far_asked s r (good s i) (still s.n) false ∙ ap asked stood.0 in
          rw (← stood.0, ← stood.1)
          (open_sends s r (good s i) (still s.n) hold shows
          (subst (λ (y : Request). (y ≡ shows) ⊎ (may_win (rank_of_request y) ≡ false)) (sym asks) which) can (rw (← stood.0) at h))

      replaced_led : live d ≡ true → sendable ≡ true → fits ≡ true → (idle : Bool) → flag replaced idle ≡ true
          → Led idle (pick replaced idle)
      replaced_led alive can f true h = hidden_led alive h (by_hidden can h)
      replaced_led alive can f false h =
          let same : asked r.k1 ≡ shows = rw f in
          from_any alive false (after r.k1 r.k2) (λ k1 k2 i. by_accepted k1 k2 i true f can (inl same) h)

      -- where it stood with 00 08 accepted, or had section 0 failed
      stood_led : live d ≡ true → sendable ≡ true → fits ≡ false → (t : Bool) → hidden ≡ t
          → opened idle_k1 && d.idle || t ≡ true → Led true (after idle_k1 idle_k2)
      stood_led alive can f true e h = hidden_led alive e (by_hidden can e)
      stood_led alive can f false e h =
          let both = (and-eq-true_iff (opened idle_k1) d.idle).0 (or_none (opened idle_k1 && d.idle) h) in
          rw e (both.1, by_accepted idle_k1 idle_k2 (inr (both.1, refl)) false f can (inr (ap may_win none_rank)) both.0)

      kept_led : live d ≡ true → sendable ≡ true → fits ≡ false → (idle : Bool) → flag kept idle ≡ true
          → Led idle (pick kept idle)
      kept_led alive can f true h = stood_led alive can f hidden refl h
      kept_led alive can f false h =
          let both = (and-eq-true_iff (opened base.k1) d.heard).0 h in
          let same : asked base.k1 ≡ shows = rw f in
          rw both.1
          (refl, by_accepted base.k1 base.k2 (inl (both.1, refl)) false f can (inl same) both.0)

      -- what a row that is sent leaves, by whether the received pair is usable
      abbrev behind : Bool → Records
      behind t = if t then replaced else kept

      hidden_in_lem : (t : Bool) (u : Controller) → hidden ≡ true → u ≡ after idle_k1 idle_k2 → In (behind t) u
      hidden_in_lem true u h k = inr (h, k)
      hidden_in_lem false u h k = inr (rw h (or_right (opened idle_k1 && d.idle) true refl), k)

      -- the flag that a record is left by goes on
      heard_in_lem : (t : Bool) (u : Controller) → d.heard ≡ true → opened (accepted_byte t r.k1 base.k1) ≡ true
          → u ≡ after (accepted_byte t r.k1 base.k1) (accepted_byte t r.k2 base.k2) → In (behind t) u
      heard_in_lem true u e h k = inl (h, k)
      heard_in_lem false u e h k = inl (rw (e, h), k)

      idle_in : (t : Bool) (u : Controller) → d.idle ≡ true → opened (accepted_byte t r.k1 idle_k1) ≡ true
          → u ≡ after (accepted_byte t r.k1 idle_k1) (accepted_byte t r.k2 idle_k2) → In (behind t) u
      idle_in true u e h k = inl (h, k)
      idle_in false u e h k = inr (rw (e, h), k)

      -- what is known of a record behind the row, where k1 k2 was accepted before
      read_off : (k1 k2 : ℕ) (s : Controller) → In d s → s ≡ holding k1 k2 → (c : Cause) → Sends (stepped s c r) r
          → (u : Controller) → u ≡ (stepped s c r).controller → (t : Bool) → fits ≡ t
          → (opened (accepted_byte t r.k1 k1) ≡ true → u ≡ after (accepted_byte t r.k1 k1) (accepted_byte t r.k2 k2)
          → In (behind t) u)
          → (sendable ≡ true) × In (behind t) u
      read_off k1 k2 s i is c sends u k t f stays =
          let reached = rw (← k) at (sends_reached s r (good s i) (still s.n) c sends) in
          let stood = far_accepted s r (good s i) (still s.n) t (rw is f) in (
            rw is at reached.0,
            ⊎_elim (λ h. hidden_in_lem t u (rw is at h.0) (rw is at h.1))
                (λ h. stays (rw (stood.0, is) at h.0) (rw (stood.0, stood.1, is) at h.1)) reached.1,
          )

      out_of : (t : Bool) → fits ≡ t → (u : Controller) → From u → (sendable ≡ true) × In (behind t) u
      out_of t f u (s, c, inl (e, is), sends, k) =
          read_off base.k1 base.k2 s (inl (e, is)) is c sends u k t f (heard_in_lem t u e)
      out_of t f u (s, c, inr (e, is), sends, k) =
          read_off idle_k1 idle_k2 s (inr (e, is)) is c sends u k t f (idle_in t u e)

    abbrev LedAt : Bool → Records → Type 0
    LedAt idle m = flag m idle ≡ true → Led idle (pick m idle)

    lost : (idle : Bool) → ((next d r).heard ≡ false) × ((next d r).idle ≡ false) → flag (next d r) idle ≡ true → ⊥
    lost true none h = false≢true (sym none.1 ∙ h)
    lost false none h = false≢true (sym none.0 ∙ h)

    pub next_led : live d ≡ true → (idle : Bool) → flag (next d r) idle ≡ true → Led idle (pick (next d r) idle)
    next_led alive idle = go sendable (alarm_in r.k2) fits refl refl refl
      where
        go : (a b t : Bool) → sendable ≡ a → alarm_in r.k2 ≡ b → fits ≡ t → LedAt idle (next d r)
        go true true t e q f = subst (LedAt idle) (sym (next_alarmed e q)) (alarmed_led q alive e idle)
        go true false true e q f = subst (LedAt idle) (sym (next_replaced e q f)) (replaced_led q alive e f idle)
        go true false false e q f = subst (LedAt idle) (sym (next_kept e q f)) (kept_led q alive e f idle)
        go false b t e q f = λ h. absurd (lost idle (next_lost e) h)

    -- exactly the records that some cause leaves
    pub next_in : (u : Controller) → live d ≡ true → In (next d r) u ↔ From u
    next_in u alive = (forward, backward (alarm_in r.k2) fits refl refl)
      where
        forward : In (next d r) u → From u
        forward i =
            let (idle, e, is) = in_pick (next d r) u i in
            let (was, led) = next_led alive idle e in
            (pick d (idle_by idle), cause_shown hold (failed_by idle), pick_in d (idle_by idle) was, led.0, is ∙ led.1)

        backward : (b t : Bool) → alarm_in r.k2 ≡ b → fits ≡ t → From u → In (next d r) u
        backward true t q f from =
            let (e, i) = out_of_alarmed q u from in subst (λ (m : Records). In m u) (sym (next_alarmed e q)) i
        backward false true q f from =
            let (e, i) = out_of q true f u from in subst (λ (m : Records). In m u) (sym (next_replaced e q f)) i
        backward false false q f from =
            let (e, i) = out_of q false f u from in subst (λ (m : Records). In m u) (sym (next_kept e q f)) i
