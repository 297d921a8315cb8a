-- a turn of the loop asks the next entry
use Rattle.std.proofs.Common.{◌∙◌}
use Rattle.std.proofs.lemmas.Result.{err_from_is_err_and}
use Rattle.basics.proofs.Refusals.{number_some}
use Rattle.book.proofs.Left.{next_read}
use Rattle.book.proofs.Counted.{ask_next, ask_refused, ask_done}
use Rattle.book.proofs.writer.check_entries.Goals as goal

pub returns-in_err-check_settings : goal.returns-in_err-check_settings
returns-in_err-check_settings c =
    let p = err_from_is_err_and c.from_residual.result c.from_residual.ensures.1 in
    rw (p.1, p.2)
    (ask_refused (next_read c.in-Some.ensures.steps c.entry_in.ensures) _ c.in_err-check_settings.ensures
    (number_some c.in_err-check_settings.field-0.0)
    ∙ c.loop-part.invariant)

pub loop-part-preserved : goal.loop-part-preserved
loop-part-preserved c = ask_next (next_read c.in-Some.ensures.steps c.entry_in.ensures) c.in_ok-check_settings.ensures ∙ c.loop-part.invariant

pub returns : goal.returns
returns c = ask_done c.in-None.ensures.steps.0 ∙ c.loop-part.invariant
