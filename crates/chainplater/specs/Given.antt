-- What the functions inside the crate tell each other of a step's answer, and nobody has to believe.
use Rattle.std.specs.Prelude.{◌≡◌, true, List, ℕ, length, get_or}
use Rattle.basics.specs.Settings.{options_fit}
use Rattle.controller.specs.Step.{refused_step}
use Rattle.controller.specs.Step.{Stepped}
use Rattle.chainplater.specs.Record.{record_in}

-- it is that of a step of the record that was given, so it has its settings and, refused, the whole of it
pub record StepOf (given : List ℕ) (o : Stepped) : Type 0 where
  pub long : length given ≡ 12
  pub fits : options_fit (get_or given 1 0) ≡ true
  pub sections : o.controller.n ≡ (record_in given).n
  pub setting : o.controller.hold ≡ (record_in given).hold
  pub priorities : o.controller.mask ≡ (record_in given).mask
  pub wait : o.controller.w ≡ (record_in given).w
  pub refused : (o.refusal ≡ 0 → ⊥) → o ≡ refused_step o.refusal (record_in given)
