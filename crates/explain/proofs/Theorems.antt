-- The front door: what is proved of the judge, each theorem in full with the line that cites its proof.
use mathlib.Core.Path.{◌≡◌, refl}
use mathlib.Core.Bool.{Bool, true, false}
use mathlib.Core.List.{List}
use mathlib.Core.Logic.{◌↔◌, ◌⊎◌, inl}
use Prim.Native.Nat.{ℕ, ◌+◌, ◌≤◌, ◌<◌}
use lib.Dec.{eqb}
use lib.ListN.{length, take, drop}
use Rattle.basics.specs.First.{first_of}
use Rattle.basics.specs.Table.{every}
use Rattle.basics.specs.Settings.{sections_fit, mask_fits}
use Rattle.basics.proofs.One.{OneSeen, OneAnswer}
use Rattle.pair.specs.Request.{requests, carries}
use Rattle.pair.specs.Marks.{code_of, alarm}
use Rattle.request.specs.declared.Request.{Request}
use Rattle.controller.specs.Settings.{idle_k1, idle_k2, none_held, fresh}
use Rattle.controller.specs.Rules.{no_request, asked, k1_of, is_command, held, is_wait}
use Rattle.controller.specs.Refusals.{acceptable}
use Rattle.controller.specs.Step.{protection}
use Rattle.controller.specs.declared.Controller.{Controller}
use Rattle.basics.specs.Capture.{Row, row, rows_of, size_faults}
use Rattle.explain.specs.Explained.{Cause, stepped, Sends, Explains, Explained}
use Rattle.explain.specs.Causes.{no_other_bit, causes_in, Causes, fixed_in}
use Rattle.explain.specs.Verdict.{Judging, explained_at, unexplained_at, refused_by, told, judge_faults, Right}
use Rattle.explain.specs.Lines.{lines, AllRight}
use Rattle.explain.specs.Hold.{recast, remembering, forgetting, with_hold}
use Rattle.repeats.specs.Repeats.{run_of}
use Rattle.explain.specs.Scan.{scan_from}
use Rattle.explain.specs.Trace.{idled, start, live, next, passes, passed}
use Rattle.explain.specs.declared.Records.{Records}
use Rattle.explain.proofs.OneStep.{CausedBy, Caused, Open, Hidden, shown_by, open_shown, hidden_shown, one_step, one_hidden_step}
use Rattle.explain.proofs.Alarmed.{alarm_exact}
use Rattle.explain.proofs.Reached.{Able, able_next}
use Rattle.explain.proofs.Possible.{In, flag, pick, cause_shown, failed_by, idle_by, next_in}
use Rattle.explain.proofs.Remembering.{held_led, remembers}
use Rattle.explain.proofs.Forgetting.{Recalls, recalls_next, forgets}
use Rattle.explain.proofs.Alike.{fresh_able, fresh_recalls, hold_alike}
use Rattle.explain.proofs.Repeating.{repeat_next, repeat_same}
use Rattle.explain.proofs.Passing.{scan_run}
use Rattle.explain.proofs.Exact.{explained_prefix, begin_able, answer_one, told_one, explained_exact}
use Rattle.explain.proofs.Exact.{unexplained_exact, first_within}
use Rattle.explain.proofs.Judged.{right_some, right_refused}
use Rattle.explain.proofs.Tables.{shown_causes, judged, verdict_one, fixed_one}
use Rattle.explain.proofs.Computed.{lines_all_right}
use Rattle.explain.proofs.judge.Kinds as judge-kinds
use Rattle.explain.proofs.judge.Reads as judge-fn
use Rattle.explain.proofs.judge.Statement as judge-statement
use Rattle.explain.proofs.judge.Met as judge-met
use Rattle.explain.proofs.judge_causes.Kinds as causes-kinds
use Rattle.explain.proofs.judge_causes.Reads as causes-fn
use Rattle.explain.proofs.judge_causes.Statement as causes-statement
use Rattle.explain.proofs.judge_causes.Met as causes-met

-- The judge's verdict is right, for every input: refused by the first number that applies; else explained, with the number
-- of steps, and some sequence of causes explains them; or unexplained i, and some sequence explains the first i steps and
-- none the first i + 1. (`statement` is the contract, as the checker reads it off the source.)
judge_right : {M : Type 1} → judge-statement.statement M
judge_right = judge-met.met

-- Two verdicts that the promise allows are equal. (`Post` is the function's `ensures`.)
judge_unique : OneAnswer 1 judge-kinds.ps judge-kinds.r judge-fn.Post
judge_unique κs args x y s t p q = told_one x y (answer_one _ _ _ _ _ _ _ _ p q)

-- The same of the judge that shows the causes: for every input the right answer behind its refusals, and the tables by it.
causes_right : {M : Type 1} → causes-statement.statement M
causes_right = causes-met.met

causes_unique : OneAnswer 3 causes-kinds.ps causes-kinds.r causes-fn.Post
causes_unique κs args x y s t p q = told_one x y (verdict_one p q)

-- Two contents of a table that the promise allows differ at most where causes are shown: nowhere, if the capture is not
-- explained, and else not from the entry behind the last step on.
conditions_unique :
    OneSeen 3 causes-kinds.ps causes-kinds.r causes-fn.Post (λ κs. List ℕ)
    (λ κs x exit. fixed_in (told x) exit.1.1.0.now)
conditions_unique κs args x y s t p q = (fixed_one p q).0

commands_unique :
    OneSeen 3 causes-kinds.ps causes-kinds.r causes-fn.Post (λ κs. List ℕ)
    (λ κs x exit. fixed_in (told x) exit.1.1.1.0.now)
commands_unique κs args x y s t p q = (fixed_one p q).1

-- What is shown: of an explained capture, causes under which the controller's own step, from a fresh record, sends its rows;
-- no bit is set above section n.
causes_explain : (n : ℕ) (hold : Bool) (mask w : ℕ) (bytes old old2 : List ℕ) (j : Judging) (new new2 : List ℕ) →
    let steps = length (rows_of bytes) in
    Causes n hold mask w bytes old old2 j new new2 → j.verdict ≡ 1
    → Explains (fresh n hold mask w) (causes_in n (take steps new) (take steps new2)) (rows_of bytes)
    × (every (no_other_bit n) (take steps new) ≡ true)
causes_explain n hold mask w bytes old old2 j new new2 = shown_causes

-- Its verdict is the judge's, where neither table is shorter than the steps.
causes_verdict : (n : ℕ) (hold : Bool) (mask w : ℕ) (bytes old old2 : List ℕ) (j : Judging) (new new2 : List ℕ)
    → Causes n hold mask w bytes old old2 j new new2 → length (rows_of bytes) ≤ length old → length (rows_of bytes) ≤ length old2
    → Right n hold mask w bytes j
causes_verdict n hold mask w bytes old old2 j new new2 = judged

-- Every capture has a right answer, whatever its settings and bytes.
judge_complete : (n : ℕ) (hold : Bool) (mask w : ℕ) (bytes : List ℕ) → (j : Judging) × Right n hold mask w bytes j
judge_complete n hold mask w bytes = right_some n hold mask w bytes (size_faults (length bytes))

-- A capture that is refused has the first refusal for its answer.
refused_exact : (n : ℕ) (hold : Bool) (mask w : ℕ) (bytes : List ℕ) (j : Judging) →
    let refusal = first_of (judge_faults n mask (length bytes)) in
    Right n hold mask w bytes j → (refusal ≡ 0 → ⊥) → j ≡ refused_by refusal
refused_exact n hold mask w bytes = right_refused n hold mask w bytes (size_faults (length bytes))

-- One that is not refused: explained is answered exactly if some sequence explains all steps, and unexplained i exactly if
-- some sequence explains the first i and none the first i + 1.
verdict_exact : (n : ℕ) (hold : Bool) (mask w : ℕ) (bytes : List ℕ) (j : Judging) → Right n hold mask w bytes j
    → first_of (judge_faults n mask (length bytes)) ≡ 0
    → (j ≡ explained_at (length (rows_of bytes))) ↔ Explained n hold mask w (rows_of bytes)
verdict_exact = explained_exact

first_exact : (n : ℕ) (hold : Bool) (mask w : ℕ) (bytes : List ℕ) (j : Judging) → Right n hold mask w bytes j
    → first_of (judge_faults n mask (length bytes)) ≡ 0 → (i : ℕ)
    → (j ≡ unexplained_at i)
    ↔ (Explained n hold mask w (take i (rows_of bytes)) × (Explained n hold mask w (take (i + 1) (rows_of bytes)) → ⊥))
first_exact = unexplained_exact

-- The step that is named is a step of the capture.
first_there : (n : ℕ) (hold : Bool) (mask w : ℕ) (rows : List Row) (i : ℕ) → Explained n hold mask w (take i rows)
    → (Explained n hold mask w (take (i + 1) rows) → ⊥) → i < length rows
first_there = first_within

-- What is explained is explained up to each of its steps, so that there is a first step without explanation.
prefix_closed : (n : ℕ) (hold : Bool) (mask w : ℕ) (rows : List Row) (i : ℕ) → Explained n hold mask w rows
    → Explained n hold mask w (take i rows)
prefix_closed = explained_prefix

-- Hold changes no verdict (02, g): a capture is explained with it exactly if it is without it.
hold_exact : (n mask w : ℕ) (rows : List Row) → Explained n true mask w rows ↔ Explained n false mask w rows
hold_exact = hold_alike

-- That is by a simulation of each machine by the other, step by step. Their records: `recast hold held s` is s with this setting
-- and this command held, and otherwise as it is; `remembering s` is so with hold, and holds just what was last sent, if that is a
-- command; `forgetting t` is so without hold, and holds nothing.
recast_means : (s : Controller) (hold : Bool) (held : ℕ)
    → recast hold held s
    ≡ record {
      n = s.n;
      hold = hold;
      mask = s.mask;
      w = s.w;
      k1 = s.k1;
      k2 = s.k2;
      sent = s.sent;
      left = s.left;
      held = held;
    }
recast_means s hold held = refl

remembering_means : (s : Controller) → remembering s ≡ recast true (k1_of (held (asked s.sent))) s
remembering_means s = refl

forgetting_means : (t : Controller) → forgetting t ≡ recast false none_held t
forgetting_means t = refl

-- `Recalls t`: no step from t has one of refusals 1 to 3; t has hold, and where a command was last sent it is the held one.
-- Behind any other request anything may be held.
recalls_means : (t : Controller)
    → Recalls t
    ↔ ((sections_fit t.n ≡ true)
    × (mask_fits t.n t.mask ≡ true)
    × (acceptable t ≡ true)
    × (t.hold ≡ true)
    × (is_command (code_of t.sent) ≡ true → t.held ≡ t.sent))
recalls_means t = (
  λ h. (h.fits, h.mask_fits, h.accepts, h.on, h.shows),
  λ h. record { fits = h.0; mask_fits = h.1; accepts = h.2; on = h.3; shows = h.4 },
)

-- Whatever is sent without hold, from s, is sent with it, from `remembering s`, under some cause; and the records that are left
-- are again such two.
hold_remembers : (s : Controller) (c : Cause) (r : Row) → Able s → Sends (stepped s c r) r
    → (c' : Cause)
    × Sends (stepped (remembering s) c' r) r
    × ((stepped (remembering s) c' r).controller ≡ remembering (stepped s c r).controller)
hold_remembers = remembers

-- Whatever is sent with hold, from t, is sent without it, from `forgetting t`, under some cause; and so on.
hold_forgets : (t : Controller) (c : Cause) (r : Row) → Recalls t → Sends (stepped t c r) r
    → (c' : Cause)
    × Sends (stepped (forgetting t) c' r) r
    × ((stepped (forgetting t) c' r).controller ≡ forgetting (stepped t c r).controller)
hold_forgets = forgets

recalls_kept : (t : Controller) (c : Cause) (r : Row) → Recalls t → Sends (stepped t c r) r
    → Recalls (stepped t c r).controller
recalls_kept = recalls_next

-- Fresh records are such two.
fresh_both : (n mask w : ℕ) → sections_fit n ≡ true → mask_fits n mask ≡ true
    → (remembering (fresh n false mask w) ≡ fresh n true mask w)
    × (forgetting (fresh n true mask w) ≡ fresh n false mask w)
    × Able (fresh n false mask w)
    × Recalls (fresh n true mask w)
fresh_both n mask w fits mask_right = (refl, refl, fresh_able n mask w fits mask_right, fresh_recalls n mask w fits mask_right)

-- One step without hold, section 0 not failed: of a request that stands in the table the closed form holds exactly if some
-- conditions and some command make the controller send it. `prior` is the command held before the step, `after` the one held
-- after it. (`Open` and `Hidden`, the closed form, and `Caused`, some cause, are set out in OneStep.)
step_exact : (n mask w left : ℕ) (last far prior after x : Request) → carries requests n x.code x.channel ≡ true
    → Open n mask w left last far prior after x ↔ Caused n mask w left last false far prior after x
step_exact = one_step

-- The cause that is shown is one of these: where the closed form holds, it makes the controller send the request. (`CausedBy`
-- is `Caused` of one cause; `shown_by` is the cause, from what the far end asks, section 0 failed or not, and the request.)
step_shown : (hold : Bool) (n mask w left : ℕ) (last far prior after x : Request)
    → carries requests n x.code x.channel ≡ true → Open n mask w left last far prior after x
    → CausedBy n mask w left last false far prior after x (shown_by n mask w left last hold far false x)
step_shown hold n mask w left last far prior after x = open_shown n mask w left last hold far far prior after x (inl refl)

-- And with section 0 failed, when 00 08 is accepted.
hidden_step_exact : (n mask w left : ℕ) (last prior after x : Request)
    → carries requests n x.code x.channel ≡ true
    → Hidden n mask w left last prior after x ↔ Caused n mask w left last true no_request prior after x
hidden_step_exact = one_hidden_step

hidden_step_shown : (hold : Bool) (n mask w left : ℕ) (last far prior after x : Request)
    → carries requests n x.code x.channel ≡ true → Hidden n mask w left last prior after x
    → CausedBy n mask w left last true no_request prior after x (shown_by n mask w left last hold far true x)
hidden_step_shown hold n mask w left last = hidden_shown n mask w left last hold

-- A row that received an alarm (02, c): some cause leads to a record by it exactly if one with section 0 failed does by the
-- row that received 00 08. So it needs no closed form of its own.
alarm_step_exact : (s : Controller) (r : Row) → alarm s.n r.k1 r.k2 ≡ true → (u : Controller) →
    let r' = row idle_k1 idle_k2 r.sent_k1 r.sent_k2 in
    ((c : Cause) × Sends (stepped s c r) r × (u ≡ (stepped s c r).controller))
    ↔ ((c : Cause)
    × (eqb (protection c.conditions) 2 ≡ true)
    × Sends (stepped s c r') r'
    × (u ≡ (stepped s c r').controller))
alarm_step_exact = alarm_exact

-- The scan keeps a record and two flags. `In d s`: they leave the record s open, with the last usable pair as accepted or
-- with 00 08.
open_means : (d : Records) (s : Controller)
    → In d s ↔ (((d.heard ≡ true) × (s ≡ d.controller)) ⊎ ((d.idle ≡ true) × (s ≡ idled d.controller)))
open_means d s = (λ i. i, λ i. i)

-- `Able s`: no step from the record s has one of refusals 1 to 3, and it is one without hold.
able_means : (s : Controller)
    → Able s
    ↔ ((sections_fit s.n ≡ true) × (mask_fits s.n s.mask ≡ true) × (acceptable s ≡ true) × (s.hold ≡ false))
able_means s = (
  λ a. (a.fits, a.mask_fits, a.accepts, a.off),
  λ h. record { fits = h.0; mask_fits = h.1; accepts = h.2; off = h.3 },
)

-- One row. If some record was left open before it, and every such record is able, then the flags behind it leave open exactly
-- the records that some cause leads to from those before it, in a step that sends the row's bytes.
records_exact : (d : Records) (r : Row) → ((s : Controller) → In d s → Able s) → (u : Controller) → live d ≡ true
    → In (next d r) u
    ↔ ((s : Controller) × (c : Cause) × In d s × Sends (stepped s c r) r × (u ≡ (stepped s c r).controller))
records_exact d r = next_in d r false

-- One row back. `pick d idle` is the record that the flag `flag d idle` leaves open. Each that is open behind a row is reached
-- from one that was open before it, under the cause that is shown; with hold, the record that remembers it from the one that
-- remembers that (`with_hold hold s` is s, or `remembering s`).
records_shown : (hold : Bool) (d : Records) (r : Row) → ((s : Controller) → In d s → Able s) → live d ≡ true
    → (idle : Bool) → flag (next d r) idle ≡ true →
    let before = with_hold hold (pick d (idle_by d r idle)) in
    let cause = cause_shown d r hold (failed_by d r idle) in
    (flag d (idle_by d r idle) ≡ true)
    × (Sends (stepped before cause r) r × (with_hold hold (pick (next d r) idle) ≡ (stepped before cause r).controller))
records_shown = held_led

-- Rows that repeat the one before. Where something is left behind a row and WTR is not sent, the row once more leaves the
-- records as they are; WTR once more takes a step of wait, while there is more than one, and nothing else. (`passed d k` is d
-- with k steps of wait less.)
row_repeated : (d : Records) (r : Row) → live (next d r) ≡ true → is_wait (asked r.sent_k1).code ≡ false
    → next (next d r) r ≡ next d r
row_repeated = repeat_same

wait_repeated : (d : Records) (r : Row) → live (next d r) ≡ true → 2 ≤ (next d r).controller.left
    → next (next d r) r ≡ passed (next d r) 1
wait_repeated d r goes left = repeat_next d r goes (λ waits. left)

-- So the scan of a row and, behind it, rows that begin with a run of the same one (`run_of`, of the crate `repeats`) goes on
-- behind as many of them as `passes` allows: all of the run or, with WTR, those that the wait lasts for.
run_passed : (d : Records) (r : Row) (rows : List Row) (i : ℕ) → live (next d r) ≡ true →
    let few = passes (next d r) (run_of r rows) in
    scan_from next live i (next d r) rows ≡ scan_from next live (i + few) (passed (next d r) few) (drop few rows)
run_passed = scan_run

-- Both premises hold at the start of a scan, and stay: the scan goes on while it is `live`, and a step from an able record
-- answers an able one.
start_able : (n mask w : ℕ) → sections_fit n ≡ true → mask_fits n mask ≡ true
    → (live (start (fresh n false mask w)) ≡ true) × ((s : Controller) → In (start (fresh n false mask w)) s → Able s)
start_able n mask w fits mask_right = (refl, begin_able n mask w fits mask_right)

able_kept : (s : Controller) (c : Cause) (r : Row) → Able s → Sends (stepped s c r) r → Able (stepped s c r).controller
able_kept = able_next

-- The judge lines of document 01, with hold and without.
lines_right : (hold : Bool) → AllRight hold lines
lines_right = lines_all_right
