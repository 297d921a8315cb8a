-- Laws of commands: number and channel name one command, or none.
use Rattle.std.proofs.Common.{◌≡◌, refl, sym, ap, ◌∙◌, ℕ, Option, Some, None, Result, Ok, Err}
use Rattle.std.specs.Prelude.{IfOk}
use Rattle.basics.specs.declared.refusal.Refusal.{Refusal}
use Rattle.basics.specs.Refusal.{refusal_told}
use Rattle.basics.proofs.Refusals.{with_known, number_some}
use Rattle.controller.specs.Command.{command_number, command_channel, command_with}
use Rattle.controller.specs.declared.command.Command.{Command}
use Rattle.controller.specs.declared.command.Command.TheVariants as command

pub command_back : (c : Option Command) → command_with (command_number c) (command_channel c) ≡ c
command_back None = refl
command_back (Some command.Clear) = refl
command_back (Some command.Lockout) = refl
command_back (Some (command.Forced c)) = refl
command_back (Some (command.Manual c)) = refl

-- what is read is one answer
pub read_one : (number channel k : ℕ) (x y : Result (Option Command) Refusal)
    → refusal_told x ≡ k → IfOk x (λ c. (command_number c ≡ number) × (command_channel c ≡ channel))
    → refusal_told y ≡ k → IfOk y (λ c. (command_number c ≡ number) × (command_channel c ≡ channel))
    → x ≡ y
read_one number channel k (Ok a) (Ok b) p pa q qb =
    let is : a ≡ command_with number channel = sym (command_back a) ∙ (λ i. command_with (pa.0 i) (pa.1 i)) in
    let is2 : b ≡ command_with number channel = sym (command_back b) ∙ (λ i. command_with (qb.0 i) (qb.1 i)) in
    ap Ok (is ∙ sym is2)
read_one number channel k (Ok a) (Err e) p pa q qb = absurd (number_some e (q ∙ sym p))
read_one number channel k (Err e) (Ok b) p pa q qb = absurd (number_some e (p ∙ sym q))
read_one number channel k (Err e) (Err f) p pa q qb = ap Err (sym (with_known e k p) ∙ with_known f k q)
