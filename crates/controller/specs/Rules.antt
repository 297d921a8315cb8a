-- The seven rules of one step (01, 'One step'; 02, c, d and g), in the paper's order. The ranks are those of the table of
-- requests.
use Rattle.std.specs.Prelude.{if◌then◌else◌, Bool, ◌&&◌, ◌||◌, List, [], ◌∷◌, ◌++◌, ℕ, suc, ◌+◌, ◌*◌, ◌≤◌, ltb, leb, eqb}
use Rattle.pair.specs.Request.{lockout_code, forced_code, fail_high_code, fail_low_code, degrade_high_code, degrade_low_code}
use Rattle.pair.specs.Request.{manual_code, wait_code, reverse_code, nothing_code, rank_of}
use Rattle.pair.specs.Marks.{code_of, channel_of, bridged_of, mark_told, usable, mark}
use Rattle.request.specs.Order.{same, by_rank, by_turn, best}
use Rattle.request.specs.Command.{replaces}
use Rattle.request.specs.declared.Request.{Request}
use Rattle.controller.specs.Settings.{high, idle_k1, idle_k2, none_held}
use Rattle.controller.specs.declared.Controller.{Controller}
use Rattle.controller.specs.declared.Accepted.{Accepted}

-- a request: its code in the table, and its channel
abbrev pub request : ℕ → ℕ → Request
request code c = record { code = code; channel = c }

abbrev pub lockout : Request
lockout = request lockout_code 0

abbrev pub forced : ℕ → Request
forced c = request forced_code c

abbrev pub manual : ℕ → Request
manual c = request manual_code c

abbrev pub wait_to_restore : ℕ → Request
wait_to_restore c = request wait_code c

abbrev pub reverse : ℕ → Request
reverse c = request reverse_code c

-- NR 0
abbrev pub no_request : Request
no_request = request nothing_code 0

-- what a K1 asks for, and the K1 that asks for it
abbrev pub asked : ℕ → Request
asked k1 = request (code_of k1) (channel_of k1)

abbrev pub k1_of : Request → ℕ
k1_of r = r.code * 16 + r.channel

-- there is room for it in a K1
abbrev pub FitsK1 : Request → Type 0
FitsK1 r = (r.code ≤ 15) × (r.channel ≤ 15)

abbrev pub rank_of_request : Request → ℕ
rank_of_request r = rank_of r.code r.channel

-- 1. Accepted pair: its bytes, its request and the channel that it bridges; beside them the mark of what was received.
pub record AcceptedPair : Type 0 where
  pub k1 : ℕ
  pub k2 : ℕ
  pub request : Request
  pub bridged : ℕ
  pub mark : ℕ

-- the numbers of the step's own
abbrev pub accepted_told : Accepted → AcceptedPair
accepted_told a =
    record { k1 = a.k1; k2 = a.k2; request = a.request; bridged = a.bridged; mark = mark_told a.mark }

abbrev pub accepted : ℕ → ℕ → ℕ → AcceptedPair
accepted k1 k2 m = record { k1 = k1; k2 = k2; request = asked k1; bridged = bridged_of k2; mark = m }

-- under a failed section 0 the idle pair stands in for whatever comes; else what comes counts if it is usable, and of an
-- unusable pair the mark is all that is learnt
unfoldable pub accepting : Controller → Bool → ℕ → ℕ → AcceptedPair
accepting s failed k1 k2 =
    if failed then accepted idle_k1 idle_k2 0
    else if usable s.n k1 k2 then accepted k1 k2 0
    else accepted s.k1 s.k2 (mark s.n k1 k2)

-- 2. Command. LO, FS and MS are commands. The one that is held is read off the K1 last sent;
abbrev pub is_command : ℕ → Bool
is_command code = eqb code lockout_code || eqb code forced_code || eqb code manual_code

abbrev pub held : Request → Request
held last = if is_command last.code then last else no_request

-- with hold it is the one in the record (02, g), and what was last sent plays no part
abbrev pub held_by : Bool → ℕ → Request → Request
held_by hold k1 last = if hold then asked k1 else held last

abbrev pub is_clear : ℕ → Bool
is_clear command = eqb command 1

-- it is gone once clear is given
abbrev pub kept : ℕ → Request → Request
kept command prior = if is_clear command then no_request else prior

-- a new command: 2 LO, 3 FS c, 4 MS c
abbrev pub given : ℕ → ℕ → Request
given command c =
    if eqb command 2 then lockout
    else if eqb command 3 then forced c
    else if eqb command 4 then manual c
    else no_request

-- whether the new one replaces the held one; the one of the two that is then in force
abbrev pub replaces_held : Request → Request → Bool
replaces_held prior new = replaces (rank_of_request prior) (rank_of_request new)

abbrev pub in_force : Bool → Request → Request → Request
in_force replaced prior new = if replaced then new else prior

-- 3. Local request. What the condition of a section asks for, by its priority.
abbrev pub fail_code : Bool → ℕ
fail_code is_high = if is_high then fail_high_code else fail_low_code

abbrev pub degrade_code : Bool → ℕ
degrade_code is_high = if is_high then degrade_high_code else degrade_low_code

abbrev pub condition : ℕ → ℕ → ℕ → Request
condition mask c x =
    if eqb x 2 then request (fail_code (high mask c)) c
    else if eqb x 1 then request (degrade_code (high mask c)) c
    else no_request

-- of section c and those after it
abbrev pub conditions_from : ℕ → ℕ → List ℕ → List Request
conditions_from mask c [] = []
conditions_from mask c (x ∷ rest) = condition mask c x ∷ conditions_from mask (suc c) rest

-- a wait belongs to the section whose fail or degrade, or whose WTR, went out last
abbrev pub is_fail_or_degrade : ℕ → Bool
is_fail_or_degrade code =
    eqb code fail_high_code || eqb code fail_low_code || eqb code degrade_high_code || eqb code degrade_low_code

abbrev pub is_wait : ℕ → Bool
is_wait code = eqb code wait_code

abbrev pub enters_wait : Request → Bool
enters_wait last = is_fail_or_degrade last.code && leb 1 last.channel

abbrev pub waiting : ℕ → Request → Request
waiting now last = if ltb 0 now then wait_to_restore last.channel else no_request

abbrev pub candidates : ℕ → ℕ → List ℕ → Request → Request → List Request
candidates mask protection working command wait =
    command ∷ conditions_from mask 0 (protection ∷ working) ++ (wait ∷ [])

-- the best by rank, then by turn: what was last sent stays (02, d); NR 0 where nobody asks for anything
unfoldable pub local_request : ℕ → Request → ℕ → List ℕ → Request → Request → Request
local_request mask last protection working command wait =
    best (by_turn rank_of last) no_request (candidates mask protection working command wait)

-- 4. Decision, by rank, then by channel. A request of the far end that beats ours is answered by RR; otherwise ours goes
-- out.
abbrev pub decided : Request → Request → Request
decided far near = if by_rank rank_of far near then reverse far.channel else near

-- 5. After. An unsent command is forgotten by itself, since the next step reads the held one off the K1 of this one; with hold
-- the command in force is kept in the record, sent or not
abbrev pub held_after : Bool → Request → ℕ
held_after hold command = if hold then k1_of command else none_held

-- a new command that replaced the held one was taken if it is sent, by `same` code and channel; with hold it was anyway. From
-- that its fate follows (request, Command).
abbrev pub counts : Bool → Request → Request → Bool
counts hold sent new = hold || same sent new

-- the wait goes on with WTR alone
abbrev pub left_after : Request → ℕ → ℕ
left_after sent now = if is_wait sent.code then now else 0

-- 6 and 7. Bridge and selector are channels alone (request, Bridge). Sending NR keeps the bridge, as Table 7-4 does since
-- its correction in 003.
abbrev pub keeps_bridge : Request → Bool
keeps_bridge sent = eqb sent.code nothing_code

-- the K2 that is sent: bit 5 is 1, the line bits are 000
abbrev pub k2_of : ℕ → ℕ
k2_of bridged = bridged * 16 + 0b1000
