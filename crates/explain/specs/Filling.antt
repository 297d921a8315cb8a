-- How the tables of causes are filled (02, a). On the way forward a step gets its cause with section 0 not failed, since all
-- of it but that is known there, and two marks: whether the record with the last usable pair was open before the row, and
-- whether section 0 may have failed. On the way back each step gets one of the records that were open, and the marks go.
use Rattle.std.specs.Prelude.{if◌then◌else◌, ◌≡◌, Bool, true, false, not, ◌&&◌, ◌||◌, List, [], ◌∷◌, ℕ, ◌+◌, ◌*◌, ◌/◌, ◌%◌, ◌^◌, ◌≤◌, eqb, length, take, drop}
use Rattle.basics.specs.Capture.{Row, rows_of}
use Rattle.pair.specs.Marks.{alarm_in}
use Rattle.controller.specs.Rules.{asked}
use Rattle.controller.specs.Step.{wait_of}
use Rattle.controller.specs.declared.Controller.{Controller}
use Rattle.explain.specs.Cause.{is_local, may_hide, bad_for, command_for, channel_for, is_louder}
use Rattle.explain.specs.Scan.{all, scan_from}
use Rattle.explain.specs.Trace.{live, opens, record_after, heard_by, next, Fit}
use Rattle.explain.specs.Verdict.{Judging}
use Rattle.explain.specs.declared.Records.{Records}

-- the places of the marks: no word of conditions has a bit there, since no group has a section 15
abbrev pub heard_place : ℕ
heard_place = 0x40000000

abbrev pub failed_place : ℕ
failed_place = 0x80000000

-- a word of conditions with its marks, and each of them in it
abbrev pub with_marks : ℕ → Bool → Bool → ℕ
with_marks word heard failed =
    word + (if heard then heard_place else 0) + (if failed then failed_place else 0)

abbrev pub heard_in : ℕ → Bool
heard_in word = eqb (word / heard_place % 2) 1

abbrev pub failed_in : ℕ → Bool
failed_in word = eqb (word / failed_place) 1

abbrev pub unmarked : ℕ → ℕ
unmarked word = word % heard_place

-- what is written of a step on the way forward, from the record before it; `k1` is the K1 that is accepted behind it unless
-- section 0 has failed
abbrev pub conditions_kept : Controller → Bool → ℕ → ℕ
conditions_kept s heard sent_k1 =
    let x = asked sent_k1 in
    with_marks (bad_for s.mask x * 4 ^ x.channel) heard (may_hide x)

abbrev pub command_kept : Bool → Controller → ℕ → ℕ → ℕ
command_kept hold s k1 sent_k1 =
    let x = asked sent_k1 in
    let last = asked s.sent in
    let loud = is_louder hold (wait_of s last 0) last (asked k1) x in
    256 * command_for last x loud + channel_for last x

-- The scan of a capture that is explained, but for the flag of 00 08: what is sent is known to be possible.
abbrev pub followed : Records → Row → Records
followed d r =
    let s = d.controller in
    let x = asked r.sent_k1 in
    let far = heard_by s r.k1 r.k2 in
    record {
      controller = record_after s (wait_of s (asked s.sent) 0) far.k1 far.k2 r.sent_k1;
      heard = not (alarm_in r.k2) && opens far.k1 x r.sent_k2 (is_local x) && (far.fits || d.heard);
      idle = false;
    }

-- along a scan: of each step what `f` makes of the records before it and its row; and the records at the end
abbrev pub along : (Records → Row → ℕ) → Records → List Row → List ℕ
along f d [] = []
along f d (r ∷ rows) = f d r ∷ along f (next d r) rows

abbrev pub conditions_along : Records → List Row → List ℕ
conditions_along = along (λ d r. conditions_kept d.controller d.heard r.sent_k1)

abbrev pub commands_along : Bool → Records → List Row → List ℕ
commands_along hold = along (λ d r. command_kept hold d.controller (next d r).controller.k1 r.sent_k1)

abbrev pub ended : Records → List Row → Records
ended d [] = d
ended d (r ∷ rows) = ended (next d r) rows

-- One step back, `idle` saying that the record behind it has 00 08 accepted. It got there under a failed section 0, if it may
-- have; or it stood there before; else any record will do that was open.
abbrev pub failed_back : Bool → ℕ → Bool
failed_back idle word = idle && failed_in word

abbrev pub idle_back : Bool → ℕ → Bool
idle_back idle word = if idle && not (failed_in word) then true else not (heard_in word)

abbrev pub settled_word : Bool → ℕ → ℕ
settled_word idle word = if failed_back idle word then 2 else unmarked word

-- all steps back, `idle` said of the last
abbrev pub idle_before : Bool → List ℕ → Bool
idle_before idle [] = idle
idle_before idle (word ∷ words) = idle_back (idle_before idle words) word

abbrev pub settled : Bool → List ℕ → List ℕ
settled idle [] = []
settled idle (word ∷ words) = settled_word (idle_before idle words) word ∷ settled idle words

-- a table whose first entries, as many as the steps, are written
pub record Stored (steps : ℕ) (words old new : List ℕ) : Type 0 where
  pub written : take steps new ≡ words
  pub behind : drop steps new ≡ drop steps old

-- what the way forward asks for: as many steps as either table has words, which leave something open each
pub record Keeps (d : Records) (bytes : List ℕ) (steps room2 : ℕ) : Type 0 where
  pub inside : 4 * steps ≤ length bytes
  pub fit : Fit d
  pub alive : scan_from next live 0 d (take steps (rows_of bytes)) ≡ all steps
  pub commands_room : room2 ≡ steps

-- what is promised of both ways: the verdict of the scan; explained, the causes of all steps, else of none
abbrev pub filled_steps : Judging → ℕ → ℕ
filled_steps j steps = if eqb j.verdict 1 then steps else 0

pub record Fills (hold : Bool) (d : Records) (rows : List Row) (old old2 new new2 : List ℕ) : Type 0 where
  pub conditions : Stored (length rows) (settled (not (ended d rows).heard) (conditions_along d rows)) old new
  pub commands : Stored (length rows) (commands_along hold d rows) old2 new2
