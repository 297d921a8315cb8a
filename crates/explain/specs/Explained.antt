-- What it is for a row of steps to be explained (demand 3).
use Rattle.std.specs.Prelude.{◌≡◌, Bool, List, [], ◌∷◌, ℕ}
use Rattle.controller.specs.Settings.{fresh}
use Rattle.controller.specs.Step.{step}
use Rattle.controller.specs.declared.Controller.{Controller}
use Rattle.controller.specs.Step.{Stepped}
use Rattle.basics.specs.Capture.{Row}

-- what nobody sees of a step: the condition of each section, and one command with its channel
pub record Cause : Type 0 where
  pub conditions : List ℕ
  pub command : ℕ
  pub channel : ℕ

-- the controller's own step: it receives the bytes of the row, under the cause
abbrev pub stepped : Controller → Cause → Row → Stepped
stepped s cause r = step s r.k1 r.k2 cause.conditions cause.command cause.channel

-- the step is not refused, and sends precisely the bytes of the row
pub record Sends (o : Stepped) (r : Row) : Type 0 where
  pub not_refused : o.refusal ≡ 0
  pub first : o.k1 ≡ r.sent_k1
  pub second : o.k2 ≡ r.sent_k2

-- one cause a step
abbrev pub Explains : Controller → List Cause → List Row → Type 0
Explains s [] [] = Unit {0}
Explains s (cause ∷ causes) (r ∷ rows) =
    Sends (stepped s cause r) r × Explains (stepped s cause r).controller causes rows
Explains s [] (r ∷ rows) = ⊥
Explains s (cause ∷ causes) [] = ⊥

-- some sequence of causes explains the row of steps, from a fresh record, with hold or without
abbrev pub Explained : ℕ → Bool → ℕ → ℕ → List Row → Type 0
Explained n hold mask w rows = (causes : List Cause) × Explains (fresh n hold mask w) causes rows
