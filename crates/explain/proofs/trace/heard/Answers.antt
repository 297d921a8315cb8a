-- A look at the table gives what the rows say of the received K1.
use Rattle.std.proofs.Common.{ap, ◌∙◌, ◌&&◌, ℕ}
use Rattle.pair.specs.Request.{requests}
use Rattle.pair.specs.Table.{value_in, usable_in}
use Rattle.pair.proofs.Coding.{usable_test}
use Rattle.pair.proofs.Looking.{usable_looked}
use Rattle.explain.specs.Trace.{accepted_byte}
use Rattle.explain.proofs.Looks.{accepted_rank}
use Rattle.explain.proofs.trace.heard.Goals as goal

pub returns : goal.returns
returns c =
    let a = c.args in
    let s = a.s in
    let number = c.number-received.ensures in
    let first = c.usable_in.ensures ∙ (λ i. usable_in (number i) s.n) ∙ usable_looked requests a.k1 s.n c.requires.0 in
    let fits = (λ i. first i && c.second_usable.ensures i) ∙ usable_test s.n a.k1 a.k2 in
    let k1 = c.accepted_byte.ensures ∙ (λ i. accepted_byte (fits i) a.k1 s.k1) in
    let k2 = c.accepted_byte-2.ensures ∙ (λ i. accepted_byte (fits i) a.k2 s.k2) in
    let received = c.rank_in.ensures ∙ ap (λ (v : ℕ). (value_in v).rank) number in
    let rank =
    c.accepted_byte-3.ensures
    ∙ (λ i. accepted_byte (fits i) (received i) (c.rank_of.ensures i))
    ∙ accepted_rank s a.k1 a.k2 c.requires.0 c.requires.1 in
    λ i. record { fits = fits i; k1 = k1 i; k2 = k2 i; rank = rank i }
