-- Each rule's function is handed what the rules before it gave.
use Rattle.std.proofs.Common.{arith, ◌≡◌, ap, ◌∙◌, Bool, [], ◌∷◌, List, ℕ, ◌≤◌, drop, eqb}
use Rattle.basics.proofs.Fitting.{fit_bounds}
use Rattle.pair.specs.Marks.{alarm, alarm_in}
use Rattle.pair.proofs.Coding.{alarm_test}
use Rattle.request.specs.Command.{fate, fate_number}
use Rattle.request.specs.declared.Request.{Request}
use Rattle.controller.specs.Rules.{AcceptedPair}
use Rattle.controller.specs.declared.Controller.{Controller}
use Rattle.controller.specs.Command.{command_number, command_channel}
use Rattle.controller.specs.Refusals.{refusal}
use Rattle.controller.specs.Rules.{FitsK1, asked, accepting, held_by, kept, given, replaces_held, in_force, waiting}
use Rattle.controller.specs.Rules.{local_request, decided, held_after, counts}
use Rattle.controller.specs.Step.{protection, wait_of, answering, moved, acts_on}
use Rattle.controller.proofs.Apart.{wait_kind}
use Rattle.controller.proofs.Inputs.{WellFormed, well_formed}
use Rattle.controller.proofs.Alarm.{acts_protection, acts_working, acts_unrefused}
use Rattle.controller.proofs.Sendable.{sendable_room}
use Rattle.controller.proofs.Sending.{stands_sendable, stands_kind, sent_sendable, far_channel}
use Rattle.controller.proofs.answer.moved.Goals as goal

-- section 0 is seen as the step acts on it
protects : (n k1 k2 : ℕ) (handed : List ℕ) {alarmed : Bool} {protect : ℕ} → alarmed ≡ alarm_in k2
    → protect ≡ protection (acts_on alarmed (protection handed ∷ [])) → protect ≡ protection (acts_on (alarm n k1 k2) handed)
protects n k1 k2 handed is seen = rw (seen, is, ← alarm_test n k1 k2) (acts_protection (alarm n k1 k2) handed)

module _ (s : Controller) (k1 k2 : ℕ) (handed : List ℕ) (command c : ℕ) (unrefused : refusal s handed command c ≡ 0) where
  well : WellFormed s handed command c
  well = well_formed s handed command c unrefused

  -- what the step acts on
  abbrev acts : List ℕ
  acts = acts_on (alarm s.n k1 k2) handed

  acts_well : WellFormed s acts command c
  acts_well = well_formed s acts command c (acts_unrefused s command c (alarm s.n k1 k2) handed unrefused)

  -- what each rule gives
  abbrev far : AcceptedPair
  far = accepting s (eqb (protection acts) 2) k1 k2

  abbrev prior : Request
  prior = kept command (held_by s.hold s.held (asked s.sent))

  abbrev new : Request
  new = given command c

  abbrev stands : Request
  stands = in_force (replaces_held prior new) prior new

  abbrev now : ℕ
  now = wait_of s (asked s.sent) command

  abbrev near : Request
  near = local_request s.mask (asked s.sent) (protection acts) (drop 1 handed) stands (waiting now (asked s.sent))

  abbrev sent : Request
  sent = decided far.request near

  stands_room : FitsK1 stands
  stands_room =
      let able = stands_sendable s acts command c acts_well in
      let room = sendable_room s.n s.mask now stands well.fits able in (room.0, omega arith)

  sent_room : FitsK1 sent × (far.request.channel ≤ 15)
  sent_room =
      let failed = eqb (protection acts) 2 in
      let able = rw (acts_working (alarm s.n k1 k2) handed) at (sent_sendable s acts command c acts_well failed k1 k2) in
      let room = sendable_room s.n s.mask now sent well.fits able in
      let last = far_channel s acts command c acts_well failed k1 k2 in
      let bounds = fit_bounds s.n well.fits in ((room.0, omega arith), omega arith)

  -- so the step has moved by the rules
  moved_is : answering s far sent now (held_after s.hold stands)
      (fate command (replaces_held prior new) (counts s.hold sent new))
      ≡ moved s k1 k2 acts command c
  unfolding moved
  moved_is = rw (acts_working (alarm s.n k1 k2) handed)

pub bounds-conditions-0 : goal.bounds-conditions-0
bounds-conditions-0 c =
    let a = c.args in
    let number = (well_formed a.s a.conditions.now (command_number a.command) (command_channel a.command) c.requires).number in omega arith

pub accepting-far-requires : goal.accepting-far-requires
accepting-far-requires c = let a = c.args in (well_formed a.s a.conditions.now (command_number a.command) (command_channel a.command) c.requires).fits

pub held_after-held-requires : goal.held_after-held-requires
held_after-held-requires c =
    let a = c.args in
    let commands = c.of-commands.ensures in
    rw (commands.stands, commands.replaced, commands.new, c.asked-last.ensures)
    (stands_room a.s a.received.k1 a.received.k2 a.conditions.now (command_number a.command) (command_channel a.command) c.requires)

pub local_request-near-requires : goal.local_request-near-requires
local_request-near-requires c =
    let a = c.args in
    let commands = c.of-commands.ensures in
    let all = well_formed a.s a.conditions.now (command_number a.command) (command_channel a.command) c.requires in
    let number = all.number in
    let bounds = fit_bounds a.s.n all.fits in (
      omega arith,
      omega arith,
      rw (commands.stands, commands.replaced, commands.new, c.asked-last.ensures) (stands_kind a.s a.conditions.now (command_number a.command) (command_channel a.command) all),
      rw c.waiting-wait.ensures (wait_kind c.wait_of-now.result c.asked-last.result),
    )

pub answering-requires : goal.answering-requires
answering-requires c =
    let a = c.args in
    let commands = c.of-commands.ensures in
    let protect = protects a.s.n a.received.k1 a.received.k2 a.conditions.now c.alarm.ensures c.protection-protect.ensures in
    let heard = ap (λ (a : AcceptedPair). a.request) c.accepting-far.ensures in
    rw (
      c.decided-sent.ensures,
      c.local_request-near.ensures,
      c.waiting-wait.ensures,
      c.wait_of-now.ensures,
      c.number.ensures,
      commands.stands,
      commands.replaced,
      commands.new,
      heard,
      c.asked-last.ensures,
      protect,
    ) (sent_room a.s a.received.k1 a.received.k2 a.conditions.now (command_number a.command) (command_channel a.command) c.requires)

pub returns : goal.returns
returns c =
    let a = c.args in
    let commands = c.of-commands.ensures in
    let protect = protects a.s.n a.received.k1 a.received.k2 a.conditions.now c.alarm.ensures c.protection-protect.ensures in
    let heard = ap (λ (a : AcceptedPair). a.request) c.accepting-far.ensures in
    c.answering.ensures
    ∙ ap
    (λ (far : AcceptedPair). answering a.s far c.decided-sent.result c.wait_of-now.result c.held_after-held.result
    (fate_number c.fate-fate.result)) c.accepting-far.ensures
    ∙ rw (
      c.fate-fate.ensures,
      c.number-2.ensures,
      c.counts-counted.ensures,
      c.decided-sent.ensures,
      c.local_request-near.ensures,
      c.waiting-wait.ensures,
      c.wait_of-now.ensures,
      c.number.ensures,
      c.held_after-held.ensures,
      commands.stands,
      commands.replaced,
      commands.new,
      heard,
      c.asked-last.ensures,
      protect,
    ) (moved_is a.s a.received.k1 a.received.k2 a.conditions.now (command_number a.command) (command_channel a.command) c.requires)
