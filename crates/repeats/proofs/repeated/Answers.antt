use Rattle.std.proofs.Common.{◌∙◌}
use Rattle.repeats.proofs.Runs.{repeated_run}
use Rattle.repeats.proofs.repeated.Goals as goal

pub returns : goal.returns
returns c =
    c.run_length.ensures
    ∙ repeated_run c.args.capture.now c.args.at c.if-at-lt-BACK.false c.if-capture-at.false c.in-Some.ensures.cases.same
