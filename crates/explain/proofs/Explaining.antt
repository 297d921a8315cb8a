-- The walk back settles every step of a scan that leaves something open behind each row: its words read as causes under which
-- the controller sends the rows.
use mathlib.Core.Path.{◌≡◌, refl, sym, ap, subst, ◌∙◌}
use mathlib.Core.Bool.{Bool, true, false, not, ◌&&◌, and-eq-true_iff, false≢true}
use mathlib.Core.List.{List, [], ◌∷◌}
use Prim.Native.Nat.{ℕ, suc, ◌+◌, ◌*◌, ◌^◌, ◌≤◌, ◌<◌, zero-le}
use native.Mathlib.Numerals.{add-one}
use native.Mathlib.Omega.{arith}
use lib.Dec.{lit<, lit≤}
use Rattle.basics.specs.Capture.{Row}
use Rattle.std.specs.Prelude.{if◌then◌else◌}
use Rattle.basics.specs.Settings.{sections_fit, mask_fits}
use Rattle.basics.specs.Table.{every}
use Rattle.basics.proofs.Fitting.{fit_bounds}
use Rattle.pair.specs.Request.{requests}
use Rattle.pair.proofs.Rows.{carried_within}
use Rattle.request.specs.declared.Request.{Request}
use Rattle.controller.specs.Settings.{fresh}
use Rattle.controller.specs.Rules.{asked}
use Rattle.controller.specs.Step.{wait_of}
use Rattle.controller.specs.declared.Controller.{Controller}
use Rattle.explain.specs.Explained.{Cause, Explains}
use Rattle.explain.specs.Cause.{may_hide, only, bad_for, is_new, command_for, channel_for, is_louder}
use Rattle.explain.specs.Causes.{conditions_in, no_other_bit, cause_in, causes_in, Shown}
use Rattle.explain.specs.Filling.{failed_in, conditions_kept, command_kept, conditions_along, commands_along, ended}
use Rattle.explain.specs.Filling.{idle_back, settled_word, idle_before, settled, heard_place, Fills}
use Rattle.explain.specs.Hold.{with_hold}
use Rattle.explain.specs.Scan.{Scanned, all, first, scan_from}
use Rattle.explain.specs.Trace.{start, live, hidden_in, next}
use Rattle.explain.specs.declared.Records.{Records}
use Rattle.explain.proofs.Reached.{Able}
use Rattle.explain.proofs.Possible.{In, flag, pick, any_flag, live_sendable, cause_shown, failed_by, idle_by}
use Rattle.explain.proofs.Remembering.{fresh_held, held_led}
use Rattle.explain.proofs.Followed.{hidden_live}
use Rattle.explain.proofs.Exact.{able_behind, begin_able}
use Rattle.explain.proofs.Words.{bad_few, word_below}
use Rattle.explain.proofs.Reading.{bad_word, bad_word_fits, heard_back, failed_back_lem, word_back, command_back}

-- each row leaves something open
abbrev pub Alive : Records → List Row → Type 0
Alive d [] = Unit {0}
Alive d (r ∷ rows) = (live (next d r) ≡ true) × Alive (next d r) rows

abbrev is_all : Scanned → Bool
is_all (all k) = true
is_all (first k) = false

pub scan_alive : (rows : List Row) (i k : ℕ) (d : Records) → scan_from next live i d rows ≡ all k → Alive d rows
scan_alive [] i k d e = tt
scan_alive (r ∷ rows) i k d e = go (live (next d r)) refl (scan_alive rows (suc i) k (next d r))
  where
    go : (t : Bool) → live (next d r) ≡ t
        → (scan_from next live (suc i) (next d r) rows ≡ all k → Alive (next d r) rows) → Alive d (r ∷ rows)
    go true goes rest = (goes, rest (rw goes at e))
    go false stops rest = let none : first i ≡ all k = rw stops at e in absurd (false≢true (ap is_all none))

ended_live : (rows : List Row) (d : Records) → live d ≡ true → Alive d rows → live (ended d rows) ≡ true
ended_live [] d alive more = alive
ended_live (r ∷ rows) d alive more = ended_live rows (next d r) more.0 more.1

-- a step keeps the number of sections
sections_kept : (d : Records) (r : Row) → (next d r).controller.n ≡ d.controller.n
unfolding next
sections_kept d r = refl

-- the words of one row
module _ (d : Records) (r : Row) (fits : sections_fit d.controller.n ≡ true) (goes : live (next d r) ≡ true) where
  abbrev s : Controller
  s = d.controller

  abbrev last : Request
  last = asked s.sent

  abbrev x : Request
  x = asked r.sent_k1

  abbrev bad : ℕ
  bad = bad_for s.mask x

  abbrev word : ℕ
  word = bad * 4 ^ x.channel

  abbrev kept : ℕ
  kept = conditions_kept s d.heard r.sent_k1

  within : x.channel ≤ s.n
  within = carried_within requests s.n x.code x.channel (live_sendable d r goes)

  low : word < heard_place
  low =
      let some = within in
      let most = (fit_bounds s.n fits).1 in
      word_below s.mask x (omega arith)

  failed_is : failed_in kept ≡ hidden_in s x r.sent_k2
  failed_is = failed_back_lem word low d.heard (may_hide x) ∙ sym (hidden_live d r goes)

  idle_is : (idle : Bool) → idle_by d r idle ≡ idle_back idle kept
  idle_is idle i =
      if idle && not (sym failed_is i) then true
      else not (sym (heard_back word low d.heard (may_hide x)) i)

  -- the word that is left
  settled_is : (idle : Bool) → settled_word idle kept ≡ (if failed_by d r idle then 2 else word)
  settled_is idle i =
      if idle && failed_is i then 2 else word_back word low d.heard (may_hide x) i

  conditions_are : (failed : Bool)
      → conditions_in (s.n + 1) (if failed then 2 else word)
      ≡ (if failed then only (suc s.n) 0 2 else only (suc s.n) x.channel bad)
  conditions_are true =
      ap (λ (k : ℕ). conditions_in k 2) (add-one s.n) ∙ bad_word (suc s.n) 0 2 (omega arith) (lit< tt)
  conditions_are false =
      let few = bad_few s.mask x in
      let some = within in
      ap (λ (k : ℕ). conditions_in k word) (add-one s.n)
      ∙ bad_word (suc s.n) x.channel bad (omega arith) (omega arith)

  bits_fit : (failed : Bool) → no_other_bit s.n (if failed then 2 else word) ≡ true
  bits_fit true = bad_word_fits s.n 0 2 zero-le (lit≤ tt)
  bits_fit false = bad_word_fits s.n x.channel bad within (bad_few s.mask x)

  channel_small : channel_for last x < 256
  channel_small = go (is_new last x)
    where
      go : (t : Bool) → (if t then x.channel else 0) < 256
      go true = omega arith
      go false = lit< tt

  cause_is : (hold idle : Bool) →
      let command = command_kept hold s (next d r).controller.k1 r.sent_k1 in
      cause_in s.n (settled_word idle kept) command ≡ cause_shown d r hold (failed_by d r idle)
  unfolding next
  cause_is hold idle =
      let loud = is_louder hold (wait_of s last 0) last (asked (next d r).controller.k1) x in
      let back = command_back (command_for last x loud) (channel_for last x) channel_small in
      let conditions = ap (conditions_in (s.n + 1)) (settled_is idle) ∙ conditions_are (failed_by d r idle) in
      λ i. record { conditions = conditions i; command = back.0 i; channel = back.1 i }

-- all rows, with hold or without
module _ (hold : Bool) where
  settles : (rows : List Row) (d : Records) → ((s : Controller) → In d s → Able s) → live d ≡ true
      → sections_fit d.controller.n ≡ true → Alive d rows → (end : Bool) → flag (ended d rows) end ≡ true →
      let n = d.controller.n in
      let words = conditions_along d rows in
      (flag d (idle_before end words) ≡ true)
      × Explains (with_hold hold (pick d (idle_before end words))) (causes_in n (settled end words) (commands_along hold d rows)) rows
      × (every (no_other_bit n) (settled end words) ≡ true)
  settles [] d good alive fits more end e = (e, tt, refl)
  settles (r ∷ rows) d good alive fits more end e =
      let goes = more.0 in
      let kept = sections_kept d r in
      let n = d.controller.n in
      let (was, rest, bits) =
      settles rows (next d r) (able_behind d r alive good) goes (rw kept fits) more.1 end e in
      let words = conditions_along (next d r) rows in
      let idle = idle_before end words in
      let word = conditions_kept d.controller d.heard r.sent_k1 in
      let (before, led) = held_led hold d r good alive idle was in
      let causes = causes_in n (settled end words) (commands_along hold (next d r) rows) in
      let behind =
      subst (λ (u : Controller). Explains u causes rows) led.1
      (subst
      (λ (m : ℕ).
      Explains (with_hold hold (pick (next d r) idle)) (causes_in m (settled end words) (commands_along hold (next d r) rows)) rows)
      kept rest) in
      let back = idle_is d r fits goes idle in
      let cause = cause_is d r fits goes hold idle in
      let fit =
      subst (λ (v : ℕ). no_other_bit n v ≡ true) (sym (settled_is d r fits goes idle)) (bits_fit d r fits goes (failed_by d r idle)) in (
        subst (λ (t : Bool). flag d t ≡ true) back before,
        subst
            (λ (t : Bool).
            Explains (with_hold hold (pick d t)) (cause_in n (settled_word idle word) (command_kept hold d.controller (next d r).controller.k1 r.sent_k1) ∷ causes) (r ∷ rows))
            back
            (subst (λ (c : Cause). Explains (with_hold hold (pick d (idle_by d r idle))) (c ∷ causes) (r ∷ rows)) (sym cause) (led.0, behind)),
        (and-eq-true_iff (no_other_bit n (settled_word idle word)) (every (no_other_bit n) (settled end words))).1
            (fit, subst (λ (m : ℕ). every (no_other_bit m) (settled end words) ≡ true) kept bits),
      )

-- from a fresh record
module _ (n : ℕ) (hold : Bool) (mask w : ℕ) (fits : sections_fit n ≡ true) (mask_Fits : mask_fits n mask ≡ true) (rows : List Row) where
  abbrev begin : Records
  begin = start (fresh n false mask w)

  begun : (idle : Bool) → flag begin idle ≡ true → (causes : List Cause) → Explains (with_hold hold (pick begin idle)) causes rows
      → Explains (fresh n hold mask w) causes rows
  begun true e causes h = absurd (false≢true e)
  begun false e causes h = subst (λ (s : Controller). Explains s causes rows) (fresh_held n hold mask w) h

  pub filled_shown : (k : ℕ) → scan_from next live 0 begin rows ≡ all k → (old old2 new new2 : List ℕ)
      → Fills hold begin rows old old2 new new2 → Shown n hold mask w rows old old2 new new2
  filled_shown k e old old2 new new2 fills =
      let more = scan_alive rows 0 k begin e in
      let last = any_flag (ended begin rows) (ended_live rows begin refl more) in
      let end = not (ended begin rows).heard in
      let words = conditions_along begin rows in
      let (was, explains, bits) = settles hold rows begin (begin_able n mask w fits mask_Fits) refl fits more end last in
      record {
        explains =
            rw (fills.conditions.written, fills.commands.written)
            (begun (idle_before end words) was (causes_in n (settled end words) (commands_along hold begin rows)) explains);
        no_other_bit = rw fills.conditions.written bits;
        conditions_behind = fills.conditions.behind;
        commands_behind = fills.commands.behind;
      }
