-- A row that repeats the one before leaves the records as they are, but that WTR takes a step of wait.
use mathlib.Core.Path.{◌≡◌, refl, sym, ap, ◌∙◌}
use mathlib.Core.Bool.{Bool, true, false, not, ◌&&◌, ◌||◌, and-eq-true_iff, false≢true}
use mathlib.Core.Logic.{inl, inr, ⊎_elim}
use Prim.Native.Nat.{ℕ, ◌-◌, ◌≤◌}
use native.Mathlib.Omega.{arith}
use lib.Dec.{leb, eqb}
use borrow.Author.Tests.{eqb-true, eq-eqb, le-leb}
use Rattle.basics.specs.Capture.{Row}
use Rattle.pair.specs.Marks.{usable, alarm_in}
use Rattle.pair.specs.Request.{requests, carries}
use Rattle.request.specs.Order.{same}
use Rattle.request.specs.declared.Request.{Request}
use Rattle.std.proofs.lemmas.Bool.{or_cases}
use Rattle.controller.specs.Rules.{asked, rank_of_request, held, is_wait, left_after}
use Rattle.controller.specs.Settings.{idle_k1, none_held}
use Rattle.controller.specs.Step.{wait_of}
use Rattle.controller.specs.declared.Controller.{Controller}
use Rattle.explain.specs.Cause.{commanded, follows, conditioned, waited, arises, unseen, is_local, may_hide}
use Rattle.explain.specs.Trace.{live, second_fits, opens, command_in, local_in, hidden_in, record_after, accepted_byte, left_open, next, with_left, passed}
use Rattle.explain.specs.declared.Records.{Records}
use Rattle.explain.proofs.Followed.{reverse_plain, protection_plain, sent_local, local_live, hidden_live}
use Rattle.explain.proofs.Source.{one_part}

heard_twice : (c q o f h : Bool) → c && (q && o && (f || c && (q && o && (f || h)))) ≡ c && (q && o && (f || h))
heard_twice false q o f h = refl
heard_twice true false o f h = refl
heard_twice true true false f h = refl
heard_twice true true true true h = refl
heard_twice true true true false h = refl

idle_twice : (c a i h : Bool) → c && (a && (c && (a && i || h)) || h) ≡ c && (a && i || h)
idle_twice false a i h = refl
idle_twice true false i h = refl
idle_twice true true true h = refl
idle_twice true true false true = refl
idle_twice true true false false = refl

accepted_twice : (fits : Bool) (received before : ℕ)
    → accepted_byte fits received (accepted_byte fits received before) ≡ accepted_byte fits received before
accepted_twice true received before = refl
accepted_twice false received before = refl

by_command : (a b c e : Bool) → a && (b || c && e) ≡ true → b ≡ false → e ≡ true
by_command a b c e h none =
    let or = ((and-eq-true_iff a (b || c && e)).0 h).1 in
    ⊎_elim (λ is. absurd (false≢true (sym none ∙ is))) (λ is. ((and-eq-true_iff c e).0 is).1) (or_cases b (c && e) or)

-- a command that is sent again goes on
same_self : (x : Request) → same x x ≡ true
same_self x = rw (eq-eqb x.code x.code refl, eq-eqb x.channel x.channel refl)

command_again : (s : Controller) (x : Request) → command_in s x ≡ true → commanded (held x) (held x) ≡ true
command_again s x command =
    let after = held x in
    let prior = held (asked s.sent) in
    let given =
    ((and-eq-true_iff (not (eqb after.code 0b0000)) (follows (same after prior) (rank_of_request prior) (rank_of_request after))).0 command).0 in
    rw given (ap (λ (t : Bool). follows t (rank_of_request after) (rank_of_request after)) (same_self after))

-- what is left of the wait behind WTR that is sent again
left_again : (t : Controller) (now : ℕ) (x : Request) → t.left ≡ left_after x now → left_after x (wait_of t x 0) ≡ t.left - 1
left_again t now x left = go (is_wait x.code) refl
  where
    go : (w : Bool) → is_wait x.code ≡ w → left_after x (wait_of t x 0) ≡ t.left - 1
    go true e = let code = eqb-true x.code 0b0110 e in rw code refl
    go false e = rw (left, e) refl

module _ (d : Records) (r : Row) (goes : live (next d r) ≡ true)
    (on : is_wait (asked r.sent_k1).code ≡ true → 2 ≤ (next d r).controller.left) where
  abbrev s : Controller
  s = d.controller

  abbrev x : Request
  x = asked r.sent_k1

  -- the record behind the row
  abbrev t : Controller
  t = (next d r).controller

  waited_again : waited (wait_of s (asked s.sent) 0) (asked s.sent) x ≡ true → waited (wait_of t x 0) x x ≡ true
  waited_again h =
      let last = asked s.sent in
      let now = wait_of s last 0 in
      let both = ((and-eq-true_iff (is_wait x.code && eqb x.channel last.channel) (leb 1 now)).0 h).0 in
      let waits = ((and-eq-true_iff (is_wait x.code) (eqb x.channel last.channel)).0 both).0 in
      let code = eqb-true x.code 0b0110 waits in
      let two = on waits in
      rw code (rw (eq-eqb x.channel x.channel refl) (le-leb 1 (t.left - 1) (omega arith)))

  stays : local_in s x ≡ true → local_in t x ≡ true
  unfolding arises next
  stays h =
      let last = asked s.sent in
      let now = wait_of s last 0 in
      let none = eqb x.code 0b0000 in
      let section = conditioned s.mask x in
      let command = command_in s x in
      one_part none (command_in t x) section (waited (wait_of t x 0) x x)
      (⊎_elim
      (λ three.
      ⊎_elim
      (λ two. ⊎_elim (λ is. inl is) (λ is. inr (inl (command_again s x is))) (or_cases none command two))
      (λ is. inr (inr (inl is))) (or_cases (none || command) section three))
      (λ is. inr (inr (inr (waited_again is)))) (or_cases (none || command || section) (waited now last x) h))

  local_again : local_in t x ≡ is_local x
  local_again =
      ⊎_elim (λ code. reverse_plain t x code ∙ sym (reverse_plain s x code) ∙ local_live d r goes)
      (⊎_elim
      (λ protects.
      protection_plain t x protects.1 protects.0
      ∙ sym (protection_plain s x protects.1 protects.0)
      ∙ local_live d r goes)
      (λ is. stays is ∙ sym is ∙ local_live d r goes)) (sent_local d r goes)

  hidden_again : hidden_in t x r.sent_k2 ≡ may_hide x
  unfolding unseen next
  hidden_again = go (eqb x.channel 0) (eqb x.code 0b1101) (eqb x.code 0b1111) refl refl refl
    where
      -- where it may have been sent under a failed section 0, it makes no bridge
      both : may_hide x ≡ true → (unseen (command_in s x) x ≡ true) × (second_fits r.sent_k2 0 ≡ true)
      both h = (and-eq-true_iff (unseen (command_in s x) x) (second_fits r.sent_k2 0)).0 (hidden_live d r goes ∙ h)

      go : (a b c : Bool) → eqb x.channel 0 ≡ a → eqb x.code 0b1101 ≡ b → eqb x.code 0b1111 ≡ c
          → hidden_in t x r.sent_k2 ≡ may_hide x
      go false b c e f g = rw e
      go true true c e f g = let parts = both (rw (e, f)) in rw (e, f, parts.1)
      go true false true e f g =
          let parts = both (rw (e, f, g)) in
          let command =
          command_again s x (by_command (eqb x.channel 0) (eqb x.code 0b1101) (eqb x.code 0b1111) (command_in s x) parts.0 f) in
          (λ i. e i && (f i || g i && command i) && parts.1 i) ∙ sym (λ i. e i && (f i || g i))
      go true false false e f g = rw (e, f, g)

  -- one more row leaves what the row has left
  pub repeat_next : next (next d r) r ≡ passed (next d r) 1
  unfolding next
  repeat_next =
      let carried = carries requests s.n x.code x.channel in
      let quiet = not (alarm_in r.k2) in
      let fits = usable s.n r.k1 r.k2 in
      let k1 = accepted_byte fits r.k1 s.k1 in
      let hears = accepted_twice fits r.k1 s.k1 in
      let hears2 = accepted_twice fits r.k2 s.k2 in
      let local = local_again ∙ sym (local_live d r goes) in
      let hidden = hidden_again ∙ sym (hidden_live d r goes) in
      let left = left_again t (wait_of s (asked s.sent) 0) x refl in
      (λ i.
      left_open (next d r) (record_after t (wait_of t x 0) (hears i) (hears2 i) r.sent_k1) carried quiet fits (opens (hears i) x r.sent_k2 (local i)) (opens idle_k1 x r.sent_k2 (local i)) (hidden i))
      ∙ (λ i.
      record {
        controller =
            record {
              n = s.n;
              hold = s.hold;
              mask = s.mask;
              w = s.w;
              k1 = t.k1;
              k2 = t.k2;
              sent = r.sent_k1;
              left = left i;
              held = none_held;
            };
        heard = heard_twice carried quiet (opens k1 x r.sent_k2 (local_in s x)) fits d.heard i;
        idle = idle_twice carried (quiet && not fits && opens idle_k1 x r.sent_k2 (local_in s x)) d.idle (hidden_in s x r.sent_k2) i;
      })

-- where no wait runs, nothing at all
pub repeat_same : (d : Records) (r : Row) → live (next d r) ≡ true → is_wait (asked r.sent_k1).code ≡ false
    → next (next d r) r ≡ next d r
unfolding next
repeat_same d r goes none =
    let left : (next d r).controller.left - 1 ≡ (next d r).controller.left = rw none refl in
    repeat_next d r goes (λ waits. absurd (false≢true (sym none ∙ waits))) ∙ ap (with_left (next d r)) left
