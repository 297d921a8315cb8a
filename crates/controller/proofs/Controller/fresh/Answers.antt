use Rattle.std.proofs.Common.{Ok, Err}
use Rattle.std.proofs.lemmas.Result.{err_from_is_err_and}
use Rattle.controller.proofs.Making.{making_back, told_answers, told_making}
use Rattle.controller.proofs.Controller.fresh.Goals as goal

pub returns : goal.returns
returns c =
    let a = c.args.settings in
    told_answers (making_back _) (told_making a.n a.hold a.mask a.w (Ok c.in_ok-settings_refusal.field-0) c.in_ok-settings_refusal.ensures)

pub returns-in_err-settings_refusal : goal.returns-in_err-settings_refusal
returns-in_err-settings_refusal c =
    let a = c.args.settings in
    let p = err_from_is_err_and c.from_residual.result c.from_residual.ensures.1 in
    rw (p.1, p.2) (told_answers (making_back _) (told_making a.n a.hold a.mask a.w (Err c.in_err-settings_refusal.field-0.0) c.in_err-settings_refusal.ensures))
