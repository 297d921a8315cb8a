-- What is taken from the bytes that were given is what the answer has.
use Rattle.std.proofs.Common.{◌≡◌, ap, sym, rules, Err, List, [], ◌∷◌, ◌++◌, ℕ, ◌/◌, ◌%◌, ◌∙◌}
use Rattle.basics.proofs.Refusals.{number_some}
use Rattle.controller.specs.Step.{Stepped, outcome_told, step_told}
use Rattle.chainplater.specs.Record.{record_bytes, outcome_bytes, refused_bytes}
use Rattle.chainplater.proofs.Bytes.{refused_given, settled}
use Rattle.chainplater.proofs.record.outcome_bytes.Goals as goal

pub returns-in-Err : goal.returns-in-Err
returns-in-Err c =
    let given = c.args.given.now in
    let refused = c.in-Err.refused in
    c.refused_bytes.ensures
    ∙ ap (λ (number : ℕ). refused_bytes number given) c.number.ensures
    ∙ refused_given given (step_told (Err refused)) (rw c.in-Err.is at c.requires) (λ i. (c.type_inv.given i).fits)
    (number_some refused.refusal)
    ∙ ap (λ (o : Stepped). outcome_bytes o) (sym (ap step_told c.in-Err.is))

pub returns : goal.returns
unfolding record_bytes outcome_bytes
returns c =
    let o = outcome_told c.in-Ok.o in
    let s = o.controller in
    let told : List ℕ = o.k1 ∷ o.k2 ∷ o.bridge ∷ o.selector ∷ o.mark ∷ o.fate ∷ [] in
    let behind : List ℕ = s.k1 ∷ s.k2 ∷ s.sent ∷ s.left / 256 ∷ s.left % 256 ∷ s.held ∷ told in
    let high : s.left / 256 % 256 ≡ s.left / 256 = search rules in
    rw (c.to_be_bytes.ensures, c.number_or_0.ensures, c.number-2.ensures, high)
    (ap (λ (first : List ℕ). 0 ∷ first ++ behind)
    (settled c.args.given.now o (rw c.in-Ok.is at c.requires) (λ i. (c.type_inv.given i).fits))
    ∙ ap (λ (o : Stepped). outcome_bytes o) (sym (ap step_told c.in-Ok.is)))
