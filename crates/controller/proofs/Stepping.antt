-- Laws of a step's answer: its numbers call for it.
use Rattle.std.proofs.Common.{◌≡◌, Result, Ok, Err}
use borrow.Author.Tests.{ne_eqb}
use Rattle.basics.specs.Refusal.{refusal_number}
use Rattle.basics.proofs.Refusals.{number_some, with_number}
use Rattle.pair.proofs.Marked.{told_back}
use Rattle.request.proofs.Fates.{fate_back}
use Rattle.controller.specs.Step.{step_told, step_case}
use Rattle.controller.specs.declared.Outcome.{Outcome}
use Rattle.controller.specs.declared.RefusedStep.{RefusedStep}

pub step_back : (answer : Result Outcome RefusedStep) → step_case (step_told answer) ≡ answer
step_back (Ok o) = rw (fate_back o.fate, told_back o.mark)
step_back (Err r) = rw (ne_eqb (refusal_number r.refusal) 0 (number_some r.refusal), with_number r.refusal)
