use Rattle.std.proofs.Common.{ap, ◌∙◌, false, not, ◌&&◌, ◌||◌}
use Rattle.explain.specs.Cause.{is_local, answers}
use Rattle.explain.specs.Trace.{opens_with, record_after}
use Rattle.explain.proofs.Looks.{asked_by}
use Rattle.explain.proofs.Records.follow.Goals as goal

pub returns : goal.returns
unfolding answers
returns c =
    let d = c.args.self in
    let s = d.controller in
    let r = c.args.row in
    let now = c.wait_behind.ensures in
    let x = c.asked-x.ensures in
    let far = c.heard-far.ensures in
    let accepted = c.asked.ensures ∙ ap asked_by far in
    let local = c.is_local.ensures ∙ (λ i. is_local (x i).request) in
    let heard =
    c.opens-opened.ensures
    ∙ (λ i. opens_with (accepted i) (x i) r.sent_k2 (local i)) in
    let after = c.record_after.ensures ∙ (λ i. record_after s (now i) (far i).k1 (far i).k2 r.sent_k1) in
    let alarmed = c.alarm.ensures in
    λ i. record { controller = after i; heard = not (alarmed i) && heard i && ((far i).fits || d.heard); idle = false }
