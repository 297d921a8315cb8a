-- Refused for the options, or what the judge answers.
use Rattle.std.proofs.Common.{◌≡◌, Err, arith}
use Rattle.std.proofs.lemmas.Grind.{common_steps}
use Rattle.basics.specs.declared.refusal.Refusal.TheVariants.{Options}
use Rattle.explain.specs.Verdict.{refused_by, told}
use Rattle.chainplater.specs.Verdict.{RightFor}
use Rattle.chainplater.proofs.answers.judged.Goals as goal

pub returns-in_err-settings : goal.returns-in_err-settings
unfolding RightFor
returns-in_err-settings c =
    let is : c.from_residual.result ≡ Err Options = grind (arith, common_steps) in
    record {
      answer = refused_by 25;
      right = grind (arith, common_steps);
      number = grind (arith, common_steps);
      bytes = grind (arith, common_steps);
    }

pub returns-in_err-verdict : goal.returns-in_err-verdict
unfolding RightFor
returns-in_err-verdict c =
    let e = c.in_err-verdict.field-0.0 in
    let is : c.from_residual-in_err-verdict.result ≡ Err e = grind (arith, common_steps) in
    record {
      answer = told (Err e);
      right = grind (arith, common_steps);
      number = grind (arith, common_steps);
      bytes = grind (arith, common_steps);
    }
