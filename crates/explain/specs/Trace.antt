-- What the bytes of a capture leave open of the controller's record, without hold, since hold changes no verdict (02, g; the
-- front door's `hold_exact`). The K1 last sent and the wait left follow from what was sent. The accepted pair is the last usable
-- one received or, since section 0 may have failed unseen, 00 08; an alarm that is received shows that it has failed.
use Rattle.std.specs.Prelude.{if◌then◌else◌, ◌≡◌, Bool, true, false, not, ◌&&◌, ◌||◌, List, ℕ, ◌-◌, ◌≤◌, ltb, eqb}
use Rattle.basics.specs.Settings.{sections_fit}
use Rattle.pair.specs.Request.{requests, carries}
use Rattle.pair.specs.Marks.{channel_of, usable, alarm_in}
use Rattle.request.specs.Bridge.{bridge}
use Rattle.request.specs.declared.Request.{Request}
use Rattle.controller.specs.Settings.{idle_k1, idle_k2, none_held}
use Rattle.controller.specs.Rules.{asked, rank_of_request, held, is_wait, left_after, keeps_bridge, k2_of}
use Rattle.controller.specs.Step.{wait_of}
use Rattle.controller.specs.declared.Controller.{Controller}
use Rattle.basics.specs.Capture.{Row, row, rows_of}
use Rattle.explain.specs.Cause.{commanded, arises, unseen, answers_with, answers_at, answers}
use Rattle.explain.specs.Scan.{Scanned, all, first, scan_from}
use Rattle.explain.specs.Verdict.{Judging, explained_at, unexplained_at}
use Rattle.explain.specs.declared.Heard.{Heard}
use Rattle.explain.specs.declared.Ranked.{Ranked}
use Rattle.explain.specs.declared.Records.{Records}
use Rattle.explain.specs.declared.Row.{Row as RowRead}

-- the row as a capture has it
abbrev pub row_in : RowRead → Row
row_in r = row r.k1 r.k2 r.sent_k1 r.sent_k2

-- the record with 00 08 accepted
abbrev pub idled : Controller → Controller
idled s =
    record {
      n = s.n;
      hold = s.hold;
      mask = s.mask;
      w = s.w;
      k1 = idle_k1;
      k2 = idle_k2;
      sent = s.sent;
      left = s.left;
      held = s.held;
    }

abbrev pub start : Controller → Records
start s = record { controller = s; heard = true; idle = false }

abbrev pub live : Records → Bool
live d = d.heard || d.idle

-- the sent K2 is the one of the bridge
abbrev pub second_fits : ℕ → ℕ → Bool
second_fits k2 bridged = eqb k2 (k2_of bridged)

-- the pair is sent by a controller that has accepted a K1, of this channel, where that answers it
abbrev pub opens_to : Bool → ℕ → Request → ℕ → Bool
opens_to answered c x k2 = answered && second_fits k2 (bridge c x.channel (keeps_bridge x))

abbrev pub opens_with : Ranked → Ranked → ℕ → Bool → Bool
opens_with far x k2 local = opens_to (answers_with far x local) far.request.channel x.request k2

abbrev pub opens_by : Bool → ℕ → Request → ℕ → Bool
opens_by answered k1 x k2 = opens_to answered (channel_of k1) x k2

abbrev pub opens_at : ℕ → ℕ → Request → ℕ → Bool → Bool
opens_at rank k1 x k2 local = opens_by (answers_at rank (asked k1) x local) k1 x k2

abbrev pub opens : ℕ → Request → ℕ → Bool → Bool
opens k1 x k2 local = opens_by (answers (asked k1) x local) k1 x k2

-- the command held before the step and the one held after it allow each other
abbrev pub command_in : Controller → Request → Bool
command_in s x = commanded (held (asked s.sent)) (held x)

-- x is a local request, section 0 not failed
abbrev pub local_in : Controller → Request → Bool
local_in s x =
    let last = asked s.sent in
    arises s.mask (command_in s x) (wait_of s last 0) last x

-- the pair is sent under a failed section 0
abbrev pub hidden_in : Controller → Request → ℕ → Bool
hidden_in s x k2 = unseen (command_in s x) x && second_fits k2 0

-- the record after the step, with a pair accepted
abbrev pub record_after : Controller → ℕ → ℕ → ℕ → ℕ → Controller
record_after s now k1 k2 sent_k1 =
    record {
      n = s.n;
      hold = s.hold;
      mask = s.mask;
      w = s.w;
      k1 = k1;
      k2 = k2;
      sent = sent_k1;
      left = left_after (asked sent_k1) now;
      held = none_held;
    }

-- a byte of the accepted pair: the received one's, if that is usable, else the one before
abbrev pub accepted_byte : Bool → ℕ → ℕ → ℕ
accepted_byte fits received before = if fits then received else before

-- the pair that is accepted behind a row unless section 0 has failed
abbrev pub heard_by : Controller → ℕ → ℕ → Heard
heard_by s k1 k2 =
    let fits = usable s.n k1 k2 in
    let accepted = accepted_byte fits k1 s.k1 in
    record { fits = fits; k1 = accepted; k2 = accepted_byte fits k2 s.k2; rank = rank_of_request (asked accepted) }

-- what is left open behind a row: the sent K1 stands in the table; with a usable pair received that pair is accepted, unless
-- section 0 has failed; and with an alarm received section 0 has failed
abbrev pub left_open : Records → Controller → Bool → Bool → Bool → Bool → Bool → Bool → Records
left_open d s carried quiet fits opened opened_idle hidden =
    record {
      controller = s;
      heard = carried && (quiet && opened && (fits || d.heard));
      idle = carried && (quiet && not fits && opened_idle && d.idle || hidden);
    }

-- handed in are whether the commands allow each other, and whether the pair is sent where a K1 is accepted and the request
-- is a local one
abbrev pub next_with : Bool → (ℕ → Bool → Bool) → Records → Row → Records
next_with command opened d r =
    let s = d.controller in
    let last = asked s.sent in
    let x = asked r.sent_k1 in
    let now = wait_of s last 0 in
    let local = arises s.mask command now last x in
    let carried = carries requests s.n x.code x.channel in
    let far = heard_by s r.k1 r.k2 in
    let after = record_after s now far.k1 far.k2 r.sent_k1 in
    left_open d after carried (not (alarm_in r.k2)) far.fits (opened far.k1 local) (opened idle_k1 local)
    (unseen command x && second_fits r.sent_k2 0)

unfoldable pub next : Records → Row → Records
next d r =
    let x = asked r.sent_k1 in
    next_with (command_in d.controller x) (λ k1 local. opens k1 x r.sent_k2 local) d r

-- Rows that repeat the one before leave the records as they are, but that WTR takes a step of wait.
abbrev pub takes_wait : Request → Bool
takes_wait last = is_wait last.code

-- of as many such rows those that may be passed over: with WTR not more than the wait of the next step is
abbrev pub passes : Records → ℕ → ℕ
passes d run =
    let s = d.controller in
    let last = asked s.sent in
    let now = wait_of s last 0 in
    if takes_wait last && ltb now run then now else run

-- the records with so much wait left; and those behind as many
abbrev pub with_left : Records → ℕ → Records
with_left d left =
    let s = d.controller in
    record {
      controller =
          record {
            n = s.n;
            hold = s.hold;
            mask = s.mask;
            w = s.w;
            k1 = s.k1;
            k2 = s.k2;
            sent = s.sent;
            left = left;
            held = s.held;
          };
      heard = d.heard;
      idle = d.idle;
    }

abbrev pub passed : Records → ℕ → Records
passed d run = with_left d (d.controller.left - run)

-- what the scan keeps of a record: the group has 1 to 14 sections, and neither the K1 last sent nor the accepted one has a
-- channel that no group has
pub record Fit (d : Records) : Type 0 where
  pub sections : sections_fit d.controller.n ≡ true
  pub sent : channel_of d.controller.sent ≤ 14
  pub accepted : channel_of d.controller.k1 ≤ 14

-- the verdict of the scan
abbrev pub verdict_of : Scanned → Judging
verdict_of (all k) = explained_at k
verdict_of (first i) = unexplained_at i

abbrev pub scanned : Controller → List ℕ → Judging
scanned s bytes = verdict_of (scan_from next live 0 (start s) (rows_of bytes))
