-- The front door: what is proved of the controller, each theorem in full with the line that cites its proof.
use mathlib.Core.Path.{◌≡◌, refl}
use mathlib.Core.Bool.{Bool, true, false}
use mathlib.Core.List.{List, ◌∷◌}
use mathlib.Core.Logic.{◌↔◌, ◌⊎◌}
use Prim.Native.Nat.{ℕ, ◌+◌, ◌<◌, ◌≤◌}
use lib.Dec.{leb}
use lib.ListN.{get_or}
use Rattle.std.specs.Prelude.{Ok}
use Rattle.basics.specs.First.{applies_at, FirstAt}
use Rattle.basics.proofs.First.{first_exact, none_exact}
use Rattle.basics.proofs.One.{OneAnswer, one_value, one_case}
use Rattle.basics.specs.Table.{every}
use Rattle.pair.specs.Request.{listed, carries, rank_in, rank_of}
use Rattle.pair.specs.Marks.{line_bits, finding, usable, alarm, mark}
use Rattle.request.specs.Order.{by_rank, by_turn, best, OneOf}
use Rattle.request.specs.declared.Request.{Request}
use Rattle.controller.specs.Settings.{none_held, making_case, making}
use Rattle.controller.specs.Rules.{reverse, no_request, asked, k1_of, rank_of_request, accepting, held_by, kept, given}
use Rattle.controller.specs.Rules.{replaces_held, in_force, condition, candidates, local_request, decided, held_after}
use Rattle.controller.specs.Refusals.{acceptable, conditions_fit, step_faults, refusal}
use Rattle.controller.specs.Step.{protection, refused_step, moved, step}
use Rattle.controller.specs.Run.{Input, input_fits, step_by, conditions_in, candidates_in, accepted_in, leaves_held, holds}
use Rattle.controller.specs.Run.{not_refused, run}
use Rattle.controller.specs.Sequences.{is_right, sequences}
use Rattle.controller.specs.declared.Controller.{Controller}
use Rattle.controller.proofs.Candidates.{reverse_loses, none_loses, ends_lower, ends_ours}
use Rattle.controller.proofs.Candidates.{local_one, local_above, local_only, local_single}
use Rattle.controller.proofs.Inputs.{faults_counted}
use Rattle.controller.proofs.Alarm.{alarm_step}
use Rattle.controller.proofs.Keeping.{step_refused, step_keeps, made_acceptable, made_run_unrefused}
use Rattle.controller.proofs.Staying.{decides, stays}
use Rattle.controller.proofs.Remembering.{held_is, held_runs}
use Rattle.controller.proofs.Controller.fresh.Kinds as fresh-kinds
use Rattle.controller.proofs.Controller.fresh.Reads as fresh-fn
use Rattle.controller.proofs.Controller.fresh.Statement as fresh-statement
use Rattle.controller.proofs.Controller.fresh.Met as fresh-met
use Rattle.controller.proofs.asked.asked.Kinds as asked-kinds
use Rattle.controller.proofs.asked.asked.Reads as asked-fn
use Rattle.controller.proofs.asked.asked.Statement as asked-statement
use Rattle.controller.proofs.asked.asked.Met as asked-met
use Rattle.controller.proofs.command.held.Kinds as held-kinds
use Rattle.controller.proofs.command.held.Reads as held_fn
use Rattle.controller.proofs.command.held.Statement as held-statement
use Rattle.controller.proofs.command.held.Met as held-met
use Rattle.controller.proofs.command.read.Kinds as read-kinds
use Rattle.controller.proofs.command.read.Reads as read-fn
use Rattle.controller.proofs.command.read.Statement as read-statement
use Rattle.controller.proofs.command.read.Met as read-met
use Rattle.controller.proofs.command.number.Kinds as command-number-kinds
use Rattle.controller.proofs.command.number.Reads as command-number-fn
use Rattle.controller.proofs.command.number.Statement as command-number-statement
use Rattle.controller.proofs.command.number.Met as command-number-met
use Rattle.controller.proofs.command.channel.Kinds as command-channel-kinds
use Rattle.controller.proofs.command.channel.Reads as command-channel-fn
use Rattle.controller.proofs.command.channel.Statement as command-channel-statement
use Rattle.controller.proofs.command.channel.Met as command-channel-met
use Rattle.std.specs.Prelude.{Option}
use Rattle.controller.proofs.Commands.{command_back, read_one}
use Rattle.controller.specs.Command.{command_number, command_channel, command_with}
use Rattle.controller.specs.declared.command.Command.{Command}
use Rattle.controller.proofs.section.condition.Kinds as condition-kinds
use Rattle.controller.proofs.section.condition.Reads as condition-fn
use Rattle.controller.proofs.section.condition.Statement as condition-statement
use Rattle.controller.proofs.section.condition.Met as condition-met
use Rattle.controller.proofs.wait.wait_of.Kinds as wait-of-kinds
use Rattle.controller.proofs.wait.wait_of.Reads as wait-of-fn
use Rattle.controller.proofs.wait.wait_of.Statement as wait-of-statement
use Rattle.controller.proofs.wait.wait_of.Met as wait-of-met
use Rattle.controller.proofs.Controller.step.Kinds as step-kinds
use Rattle.controller.proofs.Controller.step.Reads as step-fn
use Rattle.controller.proofs.Controller.step.Statement as step-statement
use Rattle.controller.proofs.Controller.step.Met as step-met

-- Making a fresh record, and the step, answer what their definitions say, for every input. (`statement` is the contract,
-- as the checker reads it off the source; it asks nothing of the caller.)
fresh_right : {M : Type 1} → fresh-statement.statement M
fresh_right = fresh-met.met

step_right : {M : Type 1} → step-statement.statement M
step_right = step-met.met

-- So does what is open to the judge alone.
asked_right : {M : Type 1} → asked-statement.statement M
asked_right = asked-met.met

held_right : {M : Type 1} → held-statement.statement M
held_right = held-met.met

condition_right : {M : Type 1} → condition-statement.statement M
condition_right = condition-met.met

wait_of_right : {M : Type 1} → wait-of-statement.statement M
wait_of_right = wait-of-met.met

-- Two answers that the promise of a public function allows are equal. (`Post` is the function's `ensures`.)
fresh_unique : OneAnswer 0 fresh-kinds.ps fresh-kinds.r fresh-fn.Post
fresh_unique κs args x y s t p q = one_case p q

step_unique : OneAnswer 1 step-kinds.ps step-kinds.r step-fn.Post
step_unique κs args x y s t p q = one_case p q

-- So it is for what is open to the judge alone: `asked`, `held`, `condition`, `wait_of`.
shared_unique : OneAnswer 0 asked-kinds.ps asked-kinds.r asked-fn.Post
    × OneAnswer 0 held-kinds.ps held-kinds.r held_fn.Post
    × OneAnswer 0 condition-kinds.ps condition-kinds.r condition-fn.Post
    × OneAnswer 0 wait-of-kinds.ps wait-of-kinds.r wait-of-fn.Post
shared_unique = (
  λ κs args x y s t p q. one_value p q,
  λ κs args x y s t p q. one_value p q,
  λ κs args x y s t p q. one_value p q,
  λ κs args x y s t p q. one_value p q,
)

-- The refusals come in the paper's order: a step has refusal i + 1 exactly if the fault at place i is its first, and none
-- exactly if there is no fault. A refused step answers zeros and the given record.
refusals_right : (s : Controller) (conditions : List ℕ) (command c i : ℕ)
    → (refusal s conditions command c ≡ i + 1) ↔ FirstAt (step_faults s conditions command c) i
unfolding refusal
refusals_right s conditions command c =
    first_exact (step_faults s conditions command c) (faults_counted s conditions command c)

refusals_complete : (s : Controller) (conditions : List ℕ) (command c : ℕ)
    → (refusal s conditions command c ≡ 0) ↔ ((i : ℕ) → applies_at (step_faults s conditions command c) i ≡ false)
unfolding refusal
refusals_complete s conditions command c =
    none_exact (step_faults s conditions command c) refl

refused_right : (s : Controller) (k1 k2 : ℕ) (conditions : List ℕ) (command c : ℕ)
    → (refusal s conditions command c ≡ 0 → ⊥)
    → step s k1 k2 conditions command c ≡ refused_step (refusal s conditions command c) s
refused_right = step_refused

-- Line bits 111 (02, c): a step that receives an alarm is the step with section 0 failed and any pair received, refused or
-- not, whichever of the three conditions section 0 was said to have.
alarm_right : (s : Controller) (command c k1 k2 j1 j2 x : ℕ) (working : List ℕ)
    → alarm s.n k1 k2 ≡ true → leb x 2 ≡ true
    → step s k1 k2 (x ∷ working) command c ≡ step s j1 j2 (2 ∷ working) command c
alarm_right = alarm_step

-- A fresh record is acceptable: it meets none of refusal 3.
fresh_accepted : (n : ℕ) (hold : Bool) (mask w : ℕ) (s : Controller) → making_case (making n hold mask w) ≡ Ok s
    → acceptable s ≡ true
fresh_accepted = made_acceptable

-- A step that is not refused keeps the settings and answers an acceptable record.
step_kept : (s : Controller) (k1 k2 : ℕ) (conditions : List ℕ) (command c : ℕ) →
    let o = step s k1 k2 conditions command c in
    o.refusal ≡ 0
    → (o.controller.n ≡ s.n)
    × (o.controller.hold ≡ s.hold)
    × (o.controller.mask ≡ s.mask)
    × (o.controller.w ≡ s.w)
    × (acceptable o.controller ≡ true)
step_kept s k1 k2 conditions command c h =
    let k = (step_keeps s k1 k2 conditions command c h).0 in (k.sections, k.setting, k.priorities, k.wait, k.accepts)

-- What it sends is a usable pair for the same n, with line bits 000; and the K1 is the one that the record holds.
sent_right : (s : Controller) (k1 k2 : ℕ) (conditions : List ℕ) (command c : ℕ) →
    let o = step s k1 k2 conditions command c in
    o.refusal ≡ 0
    → (usable s.n o.k1 o.k2 ≡ true) × (line_bits o.k2 ≡ 0b000) × (o.k1 ≡ o.controller.sent)
sent_right s k1 k2 conditions command c h =
    let k = (step_keeps s k1 k2 conditions command c h).1 in (k.pair_usable, k.line, k.recorded)

-- So no step of a run is refused, from a fresh record and with inputs that meet none of refusals 4 to 7.
run_complete : (n : ℕ) (hold : Bool) (mask w : ℕ) (s : Controller) → making_case (making n hold mask w) ≡ Ok s
    → (inputs : List Input) → every (input_fits n) inputs ≡ true → every not_refused (run s inputs) ≡ true
run_complete = made_run_unrefused

-- The local request is NR 0 or one of the candidates; no candidate is better, by rank and then by turn; a candidate that no
-- candidate beats is it; and so is a single candidate, whatever stands beside it that cannot win. (That this order is
-- irreflexive, transitive and total on what may win, and the laws of such orders, are at the front door of `request`.)
local_right : (mask protection : ℕ) (working : List ℕ) (command wait last : Request) →
    let found = local_request mask last protection working command wait in
    (found ≡ no_request) ⊎ OneOf found (candidates mask protection working command wait)
local_right = local_one

local_complete : (mask protection : ℕ) (working : List ℕ) (command wait last x : Request)
    → OneOf x (candidates mask protection working command wait)
    → by_turn rank_of last x (local_request mask last protection working command wait) ≡ false
local_complete = local_above

local_unique : (mask protection : ℕ) (working : List ℕ) (command wait last x : Request)
    → OneOf x (candidates mask protection working command wait) → 0 < rank_of_request x
    → ((y : Request) → OneOf y (candidates mask protection working command wait) → by_turn rank_of last y x ≡ false)
    → local_request mask last protection working command wait ≡ x
local_unique = local_only

single_right : (mask protection : ℕ) (working : List ℕ) (command wait last x : Request)
    → by_turn rank_of last x no_request ≡ true
    → ((y : Request) → OneOf y (candidates mask protection working command wait)
    → (y ≡ x) ⊎ (by_turn rank_of last y no_request ≡ false))
    → OneOf x (candidates mask protection working command wait)
    → local_request mask last protection working command wait ≡ x
single_right = local_single

-- What a step sends: the decision between the request that it has accepted and the best of its candidates, in the order that
-- goes by the K1 last sent.
sends_right : (s : Controller) (i : Input) → (step_by s i).refusal ≡ 0 →
    let near = best (by_turn rank_of (asked s.sent)) no_request (candidates_in s i) in
    (step_by s i).k1 ≡ k1_of (decided (accepted_in s i) near)
sends_right = decides

-- First come stays (02, d): a step sends what section c asks for; in the next step the section keeps its condition, no
-- candidate has a higher rank, section 0 does not ask at the same rank, and the request that is accepted, whatever pair was
-- received, does not win. Then the same K1 is sent again.
stays_right : (s : Controller) (i j : Input) (c : ℕ) →
    let o = step_by s i in
    let next = step_by o.controller j in
    let x = condition s.mask c (get_or (conditions_in s i) c 0) in
    o.refusal ≡ 0 → next.refusal ≡ 0
    → 0 < rank_of_request x → o.k1 ≡ k1_of x
    → get_or (conditions_in o.controller j) c 0 ≡ get_or (conditions_in s i) c 0
    → ((y : Request) → OneOf y (candidates_in o.controller j) → rank_of_request y ≤ rank_of_request x)
    → (rank_of_request (condition s.mask 0 (protection (conditions_in o.controller j))) ≡ rank_of_request x → ⊥)
    → by_rank rank_of (accepted_in o.controller j) x ≡ false
    → next.k1 ≡ o.k1
stays_right = stays

-- With hold (02, g) a held command stays in the record until a clear or a command of higher rank: in every step of a run whose
-- inputs are neither, whatever else they are, refused steps included, the answered record holds it.
held_stays : (inputs : List Input) (s : Controller) → s.hold ≡ true → (s.held ≡ none_held → ⊥)
    → every (leaves_held (asked s.held)) inputs ≡ true → every (holds s.held) (run s inputs) ≡ true
held_stays = held_runs

-- What a step that is not refused leaves held: with hold the command that was held, none after a clear, or a new one that
-- replaced it; without hold none, since the K1 last sent tells it.
held_afterwards : (s : Controller) (i : Input) → (step_by s i).refusal ≡ 0 →
    let prior = kept i.command (held_by s.hold s.held (asked s.sent)) in
    let new = given i.command i.channel in
    (step_by s i).controller.held ≡ held_after s.hold (in_force (replaces_held prior new) prior new)
held_afterwards = held_is

-- Between the ends nobody stays: of two requests of equal rank the accepted one wins by a lower channel, and the local one
-- otherwise, whatever was last sent.
ends_right : (far near : Request) → 0 < rank_of_request far → rank_of_request far ≡ rank_of_request near
    → (far.channel < near.channel → decided far near ≡ reverse far.channel)
    × (near.channel ≤ far.channel → decided far near ≡ near)
ends_right far near some same = (ends_lower far near some same, ends_ours far near same)

-- A command is read off its number and its channel, or refused; and they name one command, or none.
command_read_right : {M : Type 1} → read-statement.statement M
command_read_right = read-met.met

command_number_right : {M : Type 1} → command-number-statement.statement M
command_number_right = command-number-met.met

command_channel_right : {M : Type 1} → command-channel-statement.statement M
command_channel_right = command-channel-met.met

command_named : (c : Option Command) → command_with (command_number c) (command_channel c) ≡ c
command_named = command_back

command_read_unique : OneAnswer 0 read-kinds.ps read-kinds.r read-fn.Post
command_read_unique κs args x y s t p q = read_one _ _ _ x y p.0 p.1 q.0 q.1

command_number_unique : OneAnswer 0 command-number-kinds.ps command-number-kinds.r command-number-fn.Post
command_number_unique κs args x y s t p q = one_value p q

command_channel_unique : OneAnswer 0 command-channel-kinds.ps command-channel-kinds.r command-channel-fn.Post
command_channel_unique κs args x y s t p q = one_value p q

-- RR and NR never win: against them the local request is sent.
reverse_right : (c : ℕ) (near : Request) → decided (reverse c) near ≡ near
reverse_right = reverse_loses

none_right : (near : Request) → decided no_request near ≡ near
none_right = none_loses

-- P1 to P13, without hold: every value that the paper gives.
sequences_right : every is_right sequences ≡ true
unfolding step moved refusal conditions_fit acceptable local_request accepting best finding usable alarm mark rank_of rank_in carries listed
sequences_right = refl
