-- A look at the table gives what the rows say of the sent K1.
use Rattle.std.proofs.Common.{ap, ◌∙◌, not, ◌&&◌, ℕ}
use Rattle.pair.specs.Request.{requests}
use Rattle.pair.specs.Table.{value_in, usable_in}
use Rattle.pair.proofs.Looking.{usable_looked}
use Rattle.controller.specs.Rules.{held}
use Rattle.explain.specs.Cause.{commanded_at, arises, unseen}
use Rattle.explain.specs.Trace.{row_in, opens_with, record_after, left_open}
use Rattle.explain.proofs.Looks.{asked_by, next_ranked}
use Rattle.explain.proofs.Records.next.Goals as goal

pub returns : goal.returns
returns c =
    let a = c.args in
    let d = a.self in
    let s = d.controller in
    let r = a.row in
    let last = c.asked-last.ensures in
    let x = c.asked-request.ensures in
    let number = c.number-number.ensures in
    let carried =
    c.usable_in-carried.ensures
    ∙ (λ i. usable_in (number i) s.n)
    ∙ usable_looked requests r.sent_k1 s.n c.requires.sections in
    let rank = c.rank_in.ensures ∙ ap (λ (v : ℕ). (value_in v).rank) number in
    let now = c.wait_behind-now.ensures in
    let command =
    c.commanded-command.ensures ∙ (λ i. commanded_at (rank i) (held (last i).request) (held (x i))) in
    let local = c.arises-local.ensures ∙ (λ i. arises s.mask (command i) (now i) (last i).request (x i)) in
    let failed = c.unseen.ensures ∙ (λ i. unseen (command i) (x i)) in
    let second = c.second_fits.ensures in
    let far = c.heard-far.ensures in
    let accepted = c.asked.ensures ∙ ap asked_by far in
    let heard =
    c.opens-opened.ensures ∙ (λ i. opens_with (accepted i) (record { request = x i; rank = rank i }) r.sent_k2 (local i)) in
    let stood = c.asked-idle.ensures in
    let idle =
    c.opens-opened_idle.ensures ∙ (λ i. opens_with (stood i) (record { request = x i; rank = rank i }) r.sent_k2 (local i)) in
    let after = c.record_after.ensures ∙ (λ i. record_after s (now i) (far i).k1 (far i).k2 r.sent_k1) in
    let alarmed = c.alarm-quiet.ensures in
    (λ i. left_open d (after i) (carried i) (not (alarmed i)) (far i).fits (heard i) (idle i) (failed i && second i))
    ∙ next_ranked d (row_in r) c.requires
