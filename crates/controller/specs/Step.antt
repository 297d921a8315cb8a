-- One step (01, 'One step'; 02, c and g): the refusals, then the seven rules. Three things look at the setting hold: where
-- the held command is read from, what is held afterwards, and the fate of a command that was held but not sent.
use Rattle.std.specs.Prelude.{if◌then◌else◌, Bool, Result, Ok, Err, List, ◌∷◌, ℕ, eqb, get_or, drop}
use Rattle.basics.specs.Refusal.{refusal_number, refusal_with}
use Rattle.pair.specs.Marks.{mark_told, mark_case, alarm}
use Rattle.request.specs.Command.{fate, fate_number, fate_with}
use Rattle.request.specs.Wait.{wait_now}
use Rattle.request.specs.Bridge.{bridge, selector}
use Rattle.request.specs.declared.Request.{Request}
use Rattle.controller.specs.Rules.{AcceptedPair, asked, k1_of, accepting, held_by, is_clear, kept, given, replaces_held, in_force}
use Rattle.controller.specs.Rules.{is_wait, enters_wait, waiting, local_request, decided}
use Rattle.controller.specs.Rules.{held_after, counts, left_after, keeps_bridge, k2_of}
use Rattle.controller.specs.Refusals.{refusal}
use Rattle.controller.specs.declared.Controller.{Controller}
use Rattle.controller.specs.declared.Outcome.{Outcome}
use Rattle.controller.specs.declared.RefusedStep.{RefusedStep}

-- what a step answers, in numbers: a refusal or 0, the record, the bytes that are sent, bridge and selector, the mark of what
-- was received, and the fate of the command
pub record Stepped : Type 0 where
  pub refusal : ℕ
  pub controller : Controller
  pub k1 : ℕ
  pub k2 : ℕ
  pub bridge : ℕ
  pub selector : ℕ
  pub mark : ℕ
  pub fate : ℕ

-- refused: the number, and the record as it came
abbrev pub refused_step : ℕ → Controller → Stepped
refused_step k s =
    record { refusal = k; controller = s; k1 = 0; k2 = 0; bridge = 0; selector = 0; mark = 0; fate = 0 }

-- the condition of section 0
abbrev pub protection : List ℕ → ℕ
protection conditions = get_or conditions 0 0

-- the wait of this step
abbrev pub wait_of : Controller → Request → ℕ → ℕ
wait_of s last command = wait_now (is_clear command) (enters_wait last) (is_wait last.code) s.w s.left

-- what is answered once it is decided what is sent
abbrev pub answering : Controller → AcceptedPair → Request → ℕ → ℕ → ℕ → Stepped
answering s far sent now held fate_of_command =
    record {
      refusal = 0;
      controller =
          record {
            n = s.n;
            hold = s.hold;
            mask = s.mask;
            w = s.w;
            k1 = far.k1;
            k2 = far.k2;
            sent = k1_of sent;
            left = left_after sent now;
            held = held;
          };
      k1 = k1_of sent;
      k2 = k2_of (bridge far.request.channel sent.channel (keeps_bridge sent));
      bridge = bridge far.request.channel sent.channel (keeps_bridge sent);
      selector = selector sent.channel far.bridged;
      mark = far.mark;
      fate = fate_of_command;
    }

-- a step that is not refused, rule by rule
unfoldable pub moved : Controller → ℕ → ℕ → List ℕ → ℕ → ℕ → Stepped
moved s k1 k2 conditions command c =
    let protect = protection conditions in
    let last = asked s.sent in
    let far = accepting s (eqb protect 2) k1 k2 in
    let prior = kept command (held_by s.hold s.held last) in
    let new = given command c in
    let replaced = replaces_held prior new in
    let stands = in_force replaced prior new in
    let now = wait_of s last command in
    let near = local_request s.mask last protect (drop 1 conditions) stands (waiting now last) in
    let sent = decided far.request near in
    answering s far sent now (held_after s.hold stands) (fate command replaced (counts s.hold sent new))

-- what it acts on: the conditions as handed in or, where an alarm is received, with section 0 failed, whatever it was said
-- to be (02, c)
abbrev pub acts_on : Bool → List ℕ → List ℕ
acts_on alarmed conditions = if alarmed then 2 ∷ drop 1 conditions else conditions

unfoldable pub step : Controller → ℕ → ℕ → List ℕ → ℕ → ℕ → Stepped
step s k1 k2 conditions command c =
    if eqb (refusal s conditions command c) 0 then
    moved s k1 k2 (acts_on (alarm s.n k1 k2) conditions) command c
    else refused_step (refusal s conditions command c) s

-- the numbers of an answer, and the answer that they call for
abbrev pub outcome_told : Outcome → Stepped
outcome_told o =
    record {
      refusal = 0;
      controller = o.controller;
      k1 = o.k1;
      k2 = o.k2;
      bridge = o.bridge;
      selector = o.selector;
      mark = mark_told o.mark;
      fate = fate_number o.fate;
    }

abbrev pub step_told : Result Outcome RefusedStep → Stepped
step_told (Ok o) = outcome_told o
step_told (Err r) = refused_step (refusal_number r.refusal) r.controller

abbrev pub outcome_with : Stepped → Outcome
outcome_with a =
    record {
      controller = a.controller;
      k1 = a.k1;
      k2 = a.k2;
      bridge = a.bridge;
      selector = a.selector;
      mark = mark_case a.mark;
      fate = fate_with a.fate;
    }

abbrev pub step_case : Stepped → Result Outcome RefusedStep
step_case a =
    if eqb a.refusal 0 then Ok (outcome_with a)
    else Err record { refusal = refusal_with a.refusal; controller = a.controller }
