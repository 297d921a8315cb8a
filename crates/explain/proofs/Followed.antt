-- In a row that leaves something open what is sent is known to be possible: a local request, unless it is RR or SF0; and SF0
-- and LO may have been sent under a failed section 0. So the scan of an explained capture need not ask for it.
use mathlib.Core.Path.{◌≡◌, refl, sym, ap, ◌∙◌}
use mathlib.Core.Bool.{Bool, true, false, not, ◌&&◌, ◌||◌, and-false, and-eq-true_iff, false≢true}
use mathlib.Core.Logic.{◌⊎◌, inl, inr, ⊎_elim}
use Prim.Native.Nat.{ℕ}
use native.Mathlib.Omega.{arith}
use lib.Dec.{leb, eqb}
use borrow.Author.Tests.{eqb-true}
use Rattle.basics.specs.Capture.{Row}
use Rattle.pair.specs.Marks.{usable, channel_of, alarm_in}
use Rattle.pair.specs.Request.{requests, carries}
use Rattle.request.specs.Bridge.{bridge}
use Rattle.request.specs.Order.{may_win, better}
use Rattle.request.specs.declared.Request.{Request}
use Rattle.std.proofs.lemmas.Bool.{or_cases}
use Rattle.controller.specs.Rules.{asked, rank_of_request, is_command, fail_code, degrade_code, keeps_bridge}
use Rattle.controller.specs.Settings.{high, idle_k1}
use Rattle.controller.specs.Step.{wait_of}
use Rattle.controller.specs.declared.Controller.{Controller}
use Rattle.explain.specs.Cause.{conditioned, waited, arises, unseen, answers, is_local, may_hide}
use Rattle.explain.specs.Filling.{followed}
use Rattle.explain.specs.Trace.{live, second_fits, opens, command_in, local_in, hidden_in, heard_by, next}
use Rattle.explain.specs.declared.Records.{Records}
use Rattle.explain.proofs.Possible.{live_sendable}
use Rattle.explain.proofs.Source.{one_part}

-- neither RR nor SF0 is a local request, section 0 not failed
module _ (s : Controller) where
  plain : (x : Request) → is_command x.code ≡ false → eqb x.code 0b0000 ≡ false → conditioned s.mask x ≡ false
      → eqb x.code 0b0110 ≡ false → local_in s x ≡ false
  unfolding arises
  plain x command none section wait = rw command (rw (none, section, wait))

  pub reverse_plain : (x : Request) → x.code ≡ 0b0010 → local_in s x ≡ false
  reverse_plain x code =
      plain x (ap is_command code) (ap (λ (k : ℕ). eqb k 0b0000) code) (go (high s.mask x.channel))
      (ap (λ (k : ℕ). eqb k 0b0110) code)
    where
      go : (is_high : Bool)
          → eqb x.code (degrade_code is_high) || leb 1 x.channel && eqb x.code (fail_code is_high) ≡ false
      go true = rw code (and-false (leb 1 x.channel))
      go false = rw code (and-false (leb 1 x.channel))

  pub protection_plain : (x : Request) → x.code ≡ 0b1101 → x.channel ≡ 0 → local_in s x ≡ false
  protection_plain x code channel =
      plain x (ap is_command code) (ap (λ (k : ℕ). eqb k 0b0000) code) (rw (channel, code)) (ap (λ (k : ℕ). eqb k 0b0110) code)

-- what opens a record answers RR, or sends a local request
opened_by : (k1 : ℕ) (x : Request) (k2 : ℕ) (local : Bool) → opens k1 x k2 local ≡ true
    → (x.code ≡ 0b0010) ⊎ (local ≡ true)
unfolding answers
opened_by k1 x k2 local h =
    let far = asked k1 in
    let reversed = eqb x.code 0b0010 && may_win (rank_of_request far) && eqb far.channel x.channel in
    let loses = better (rank_of_request far) far.channel (rank_of_request x) x.channel in
    let answered =
    ((and-eq-true_iff (answers far x local) (second_fits k2 (bridge (channel_of k1) x.channel (keeps_bridge x)))).0 h).0 in
    ⊎_elim
    (λ reverses.
    let two = (and-eq-true_iff (eqb x.code 0b0010 && may_win (rank_of_request far)) (eqb far.channel x.channel)).0 reverses in
    let one = (and-eq-true_iff (eqb x.code 0b0010) (may_win (rank_of_request far))).0 two.0 in
    inl (eqb-true x.code 0b0010 one.0))
    (λ sends. inr ((and-eq-true_iff local (not loses)).0 sends).0) (or_cases reversed (local && not loses) answered)

-- and under LO no K1 makes a bridge
lockout_bridge : (c : ℕ) → bridge c 0 false ≡ 0
lockout_bridge c = go (eqb c 0) refl
  where
    go : (t : Bool) → eqb c 0 ≡ t → bridge c 0 false ≡ 0
    go true e = rw e (eqb-true c 0 e)
    go false e = rw e

module _ (d : Records) (r : Row) (goes : live (next d r) ≡ true) where
  abbrev s : Controller
  s = d.controller

  abbrev x : Request
  x = asked r.sent_k1

  abbrev local : Bool
  local = local_in s x

  abbrev hidden : Bool
  hidden = hidden_in s x r.sent_k2

  -- some K1 opens a record, or section 0 has failed unseen
  one_way : ((k1 : ℕ) × (opens k1 x r.sent_k2 local ≡ true)) ⊎ (hidden ≡ true)
  unfolding next
  one_way =
      let quiet = not (alarm_in r.k2) in
      let fits = usable s.n r.k1 r.k2 in
      let carried = carries requests s.n x.code x.channel in
      let k1 = (heard_by s r.k1 r.k2).k1 in
      let opened = opens k1 x r.sent_k2 local in
      let opened_idle = opens idle_k1 x r.sent_k2 local in
      ⊎_elim
      (λ heard.
      let sent = ((and-eq-true_iff carried (quiet && opened && (fits || d.heard))).0 heard).1 in
      let both = ((and-eq-true_iff (quiet && opened) (fits || d.heard)).0 sent).0 in
      inl (k1, ((and-eq-true_iff quiet opened).0 both).1))
      (λ idle.
      let sent = ((and-eq-true_iff carried (quiet && not fits && opened_idle && d.idle || hidden)).0 idle).1 in
      ⊎_elim
      (λ stood.
      let three = ((and-eq-true_iff (quiet && not fits && opened_idle) d.idle).0 stood).0 in
      inl (idle_k1, ((and-eq-true_iff (quiet && not fits) opened_idle).0 three).1)) inr
      (or_cases (quiet && not fits && opened_idle && d.idle) hidden sent))
      (or_cases (next d r).heard (next d r).idle goes)

  -- LO is a command, so that a step that sends it had one; and it makes no bridge
  lockout_hidden : x.channel ≡ 0 → x.code ≡ 0b1111 → (k1 : ℕ) → opens k1 x r.sent_k2 local ≡ true → hidden ≡ true
  unfolding arises unseen
  lockout_hidden channel code k1 h =
      let second : second_fits r.sent_k2 (bridge (channel_of k1) x.channel (keeps_bridge x)) ≡ true =
      ((and-eq-true_iff (answers (asked k1) x local) (second_fits r.sent_k2 (bridge (channel_of k1) x.channel (keeps_bridge x)))).0 h).1 in
      let none : second_fits r.sent_k2 0 ≡ true =
      ap (λ (c : ℕ). second_fits r.sent_k2 c) (sym (bridge_none code channel)) ∙ second in
      let sends : local ≡ true = ⊎_elim (λ reverses. absurd (other reverses)) (λ is. is) (opened_by k1 x r.sent_k2 local h) in
      let command : command_in s x ≡ true = given (command_in s x) refl sends in
      rw command (rw (channel, code) none)
    where
      other : x.code ≡ 0b0010 → ⊥
      other reverses = let two : ◌≡◌ {A = ℕ} 0b1111 0b0010 = sym code ∙ reverses in omega arith

      bridge_none : x.code ≡ 0b1111 → x.channel ≡ 0 → bridge (channel_of k1) x.channel (keeps_bridge x) ≡ 0
      bridge_none e f = rw (e, f) (lockout_bridge (channel_of k1))

      section : (is_high : Bool)
          → eqb x.code (degrade_code is_high) || leb 1 x.channel && eqb x.code (fail_code is_high) ≡ false
      section true = rw (code, channel)
      section false = rw (code, channel)

      given : (t : Bool) → command_in s x ≡ t → local ≡ true → command_in s x ≡ true
      given true e is = e
      given false e is =
          let nobody : local ≡ false = rw (e, section (high s.mask x.channel)) (rw code) in
          absurd (false≢true (sym nobody ∙ is))

  -- what is sent is RR, or SF0, or a local request
  pub sent_local : (x.code ≡ 0b0010) ⊎ ((x.channel ≡ 0) × (x.code ≡ 0b1101)) ⊎ (local ≡ true)
  unfolding unseen arises
  sent_local = ⊎_elim (λ way. ⊎_elim inl (λ is. inr (inr is)) (opened_by way.0 x r.sent_k2 local way.1)) by_hidden one_way
    where
      by_hidden : hidden ≡ true → (x.code ≡ 0b0010) ⊎ ((x.channel ≡ 0) × (x.code ≡ 0b1101)) ⊎ (local ≡ true)
      by_hidden h =
          let parts = ((and-eq-true_iff (unseen (command_in s x) x) (second_fits r.sent_k2 0)).0 h).0 in
          let both =
          (and-eq-true_iff (eqb x.channel 0) (eqb x.code 0b1101 || eqb x.code 0b1111 && command_in s x)).0 parts in
          ⊎_elim (λ sf. inr (inl (eqb-true x.channel 0 both.0, eqb-true x.code 0b1101 sf)))
          (λ lo.
          let command = ((and-eq-true_iff (eqb x.code 0b1111) (command_in s x)).0 lo).1 in
          inr (inr (rw command (one_part (eqb x.code 0b0000) true (conditioned s.mask x) (waited (wait_of s (asked s.sent) 0) (asked s.sent) x) (inr (inl refl))))))
          (or_cases (eqb x.code 0b1101) (eqb x.code 0b1111 && command_in s x) both.1)

  pub local_live : local ≡ is_local x
  local_live = ⊎_elim reverses (⊎_elim protects sends) sent_local
    where
      reverses : x.code ≡ 0b0010 → local ≡ is_local x
      reverses code = reverse_plain s x code ∙ sym (rw code)

      protects : (x.channel ≡ 0) × (x.code ≡ 0b1101) → local ≡ is_local x
      protects (channel, code) = protection_plain s x code channel ∙ sym (rw (channel, code))

      sends : local ≡ true → local ≡ is_local x
      sends is = go (eqb x.code 0b0010) (eqb x.channel 0) (eqb x.code 0b1101) refl refl refl
        where
          go : (a b c : Bool) → eqb x.code 0b0010 ≡ a → eqb x.channel 0 ≡ b → eqb x.code 0b1101 ≡ c
              → local ≡ is_local x
          go true b c e f g = reverses (eqb-true x.code 0b0010 e)
          go false true true e f g = protects (eqb-true x.channel 0 f, eqb-true x.code 0b1101 g)
          go false true false e f g = is ∙ sym (rw (e, f, g))
          go false false c e f g = is ∙ sym (rw (e, f))

  pub hidden_live : hidden ≡ may_hide x
  unfolding unseen
  hidden_live = go (eqb x.channel 0) (eqb x.code 0b1101) (eqb x.code 0b1111) refl refl refl
    where
      go : (a b c : Bool) → eqb x.channel 0 ≡ a → eqb x.code 0b1101 ≡ b → eqb x.code 0b1111 ≡ c → hidden ≡ may_hide x
      go false b c e f g = rw e
      go true true c e f g =
          let channel = eqb-true x.channel 0 e in
          let code = eqb-true x.code 0b1101 f in
          let is : hidden ≡ true =
          ⊎_elim
          (λ way.
          absurd
          (⊎_elim (λ reverses. false≢true (ap (λ (k : ℕ). eqb k 0b1101) (sym reverses) ∙ f))
          (λ sends. false≢true (sym (protection_plain s x code channel) ∙ sends))
          (opened_by way.0 x r.sent_k2 local way.1))) (λ h. h) one_way in
          is ∙ sym (rw (e, f))
      go true false true e f g =
          let channel = eqb-true x.channel 0 e in
          let code = eqb-true x.code 0b1111 g in
          let is = ⊎_elim (λ way. lockout_hidden channel code way.0 way.1) (λ h. h) one_way in
          is ∙ sym (rw (e, f, g))
      go true false false e f g = rw (e, f, g)

  -- so what is followed is what the scan keeps, but for the flag of 00 08
  pub followed_live : (p : Records) → p.controller ≡ d.controller → p.heard ≡ d.heard
      → ((followed p r).controller ≡ (next d r).controller) × ((followed p r).heard ≡ (next d r).heard)
  unfolding next
  followed_live p same heard = (
    ap (λ (c : Controller). (followed (record { controller = c; heard = p.heard; idle = p.idle }) r).controller) same,
    (λ i.
        not (alarm_in r.k2)
        && opens (heard_by (same i) r.k1 r.k2).k1 x r.sent_k2 (is_local x)
        && ((heard_by (same i) r.k1 r.k2).fits || heard i))
        ∙ ap (λ (t : Bool). not (alarm_in r.k2) && opens k1 x r.sent_k2 t && (fits || d.heard)) (sym local_live)
        ∙ sym (ap (λ (t : Bool). t && (not (alarm_in r.k2) && opens k1 x r.sent_k2 local && (fits || d.heard))) (live_sendable d r goes)),
  )
    where
      k1 : ℕ
      k1 = (heard_by s r.k1 r.k2).k1

      fits : Bool
      fits = usable s.n r.k1 r.k2
