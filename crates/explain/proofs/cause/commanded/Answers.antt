-- A command that is sent is held afterwards, and one that goes on was last sent.
use Rattle.std.proofs.Common.{◌≡◌, refl, sym, ap, ◌∙◌, Bool, true, false, not, ◌&&◌, eqb, ℕ}
use Rattle.std.proofs.lemmas.Bool.{false≢true}
use borrow.Author.Tests.{eqb-true}
use Rattle.pair.specs.Request.{nothing_code}
use Rattle.request.specs.Order.{same}
use Rattle.request.specs.declared.Request.{Request}
use Rattle.controller.specs.Rules.{is_command, held, rank_of_request}
use Rattle.explain.specs.Cause.{rank_held, follows, commanded_at}
use Rattle.explain.proofs.Commands.{command_code, held_rank}
use Rattle.explain.proofs.cause.commanded.Goals as goal

-- a command has another code than what is no command
other_code : (code code2 : ℕ) → is_command code ≡ true → is_command code2 ≡ false → eqb code code2 ≡ false
other_code code code2 h k = go (eqb code code2) refl
  where
    go : (t : Bool) → eqb code code2 ≡ t → eqb code code2 ≡ false
    go true e = absurd (false≢true (sym k ∙ ap is_command (sym (eqb-true code code2 e)) ∙ h))
    go false e = e

-- a request that is no command is held as none, and then nothing else is looked at
sent_held : (last x : Request) (rank : ℕ)
    → not (eqb (held x).code nothing_code) && follows (same x last) (rank_of_request (held last)) rank
    ≡ commanded_at rank (held last) (held x)
sent_held last x rank = go (is_command x.code) (is_command last.code) refl refl
  where
    go : (t u : Bool) → is_command x.code ≡ t → is_command last.code ≡ u
        → not (eqb (held x).code nothing_code) && follows (same x last) (rank_of_request (held last)) rank
        ≡ commanded_at rank (held last) (held x)
    go true true e f = rw (e, f)
    go true false e f = rw (e, f, other_code x.code last.code e f, command_code x.code e)
    go false u e f = rw e

pub returns : goal.returns
returns c =
    let a = c.args in
    let x = a.x.request in
    let last = a.last.request in
    let prior = c.rank_held.ensures ∙ (λ i. rank_held (held last) (c.requires i)) ∙ held_rank last in
    let followed =
    c.follows.ensures ∙ (λ i. follows (c.eq-goes_on.ensures i) (prior i) a.x.rank) in
    (λ i. not (eqb (c.held.ensures i).code nothing_code) && followed i) ∙ sent_held last x a.x.rank
