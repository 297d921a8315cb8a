-- Refused for the options, or what the judge answers.
use Rattle.std.proofs.Common.{◌≡◌, Err, arith}
use Rattle.std.proofs.lemmas.Grind.{common_steps}
use Rattle.basics.specs.declared.refusal.Refusal.TheVariants.{Options}
use Rattle.explain.specs.Verdict.{refused_by}
use Rattle.chainplater.specs.Verdict.{CausesFor}
use Rattle.chainplater.proofs.answers.caused.Goals as goal

pub returns-in_err-settings : goal.returns-in_err-settings
unfolding CausesFor
returns-in_err-settings c =
    let is : c.from_residual.result ≡ Err Options = grind (arith, common_steps) in
    record {
      answer = refused_by 25;
      right = grind (arith, common_steps);
      number = grind (arith, common_steps);
      bytes = grind (arith, common_steps);
    }
