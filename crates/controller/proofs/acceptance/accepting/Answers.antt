-- The decoder's answer is the usable record, or comes of a pair that is not usable.
use Rattle.std.proofs.Common.{sym, ap, ◌∙◌, Ok}
use Rattle.basics.specs.Answer.{Answers}
use Rattle.pair.specs.Coder.{decoded_told, decoded_case, decoding}
use Rattle.pair.proofs.Coding.{fit_found, usable_facts, parts_usable, found_fit, fit_case}
use Rattle.controller.specs.Rules.{accepting}
use Rattle.controller.proofs.Usability.{other_unusable}
use Rattle.controller.proofs.acceptance.accepting.Goals as goal

pub returns-then-failed : goal.returns-then-failed
unfolding accepting
returns-then-failed c = rw (c.accepted.ensures, c.if-failed.true)

-- the number is that of the K1, so the answer is the decoder's
pub returns-in_default : goal.returns-in_default
unfolding accepting
returns-in_default c =
    let a = c.args in
    let fits = c.requires in
    let d : Answers decoded_told decoded_case (decoding a.s.n a.received.k1 a.received.k2) c.found-d.result =
    rw (← found_fit a.s.n a.received.k1 a.received.k2 c.requires, ← a.received.number_is) c.found-d.ensures in
    rw (
      c.accepted-in_default.ensures,
      c.mark_in.ensures,
      d.numbers,
      (fit_found a.s.n a.received.k1 a.received.k2 fits).0,
      c.if-failed.false,
      other_unusable a.s.n a.received.k1 a.received.k2 c.found-d.result fits d.decided c.in_default.not-Usable,
    )

pub returns : goal.returns
unfolding accepting
returns c =
    let a = c.args in
    let d : Answers decoded_told decoded_case (decoding a.s.n a.received.k1 a.received.k2) c.found-d.result =
    rw (← found_fit a.s.n a.received.k1 a.received.k2 c.requires, ← a.received.number_is) c.found-d.ensures in
    let facts = usable_facts a.s.n a.received.k1 a.received.k2 c.in-Usable.p (fit_case a.s.n a.received.k1 a.received.k2 c.requires ∙ ap Ok (sym d.decided ∙ c.in-Usable.is)) in
    rw (facts.1, c.if-failed.false, parts_usable a.s.n a.received.k1 a.received.k2 facts.0)
