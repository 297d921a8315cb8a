use Rattle.std.proofs.Common.{rules, arith, ◌≡◌, refl, sym, ap, ◌∙◌}
use Rattle.controller.specs.Rules.{rank_of_request}
use Rattle.controller.proofs.Sections.{as_long}
use Rattle.controller.proofs.Nest.{first_asked, none_found}
use Rattle.controller.proofs.Nest.{command_hit, wait_hit, section_hit, next_rank}
use Rattle.controller.proofs.local.local_request.Goals as goal

pub ranks-init : goal.ranks-init
ranks-init c =
    let a = c.args in
    (rw (as_long a.protection a.conditions.now c.requires.0) c.section_ranks-past_last.ensures, first_asked _ _ (search rules), refl)

pub ranks-preserved : goal.ranks-preserved
ranks-preserved c =
    let at = c.ranks in
    let inner = c.loop-at in
    let end = c.loop-at-test.false in (
      at.invariant.0,
      next_rank _ _ c.ranks-test.true at.invariant.0 at.invariant.1 _ inner.invariant.0 (λ t h. omega arith),
      inner.invariant.1 ∙ at.invariant.2,
    )

pub returns-after-ranks : goal.returns-after-ranks
returns-after-ranks c =
    let at = c.ranks in
    let end = c.ranks-test.false in
    let zero : at.rank ≡ 0 = omega arith in
    at.invariant.2 ∙ sym (none_found _ (rw zero at at.invariant.1))

pub returns-then-command-rank : goal.returns-then-command-rank
returns-then-command-rank c =
    let at = c.ranks in
    let has = sym c.args.command.is_its_rank ∙ c.if-command-rank.true in
    sym (command_hit _ _ c.ranks-test.true at.invariant.0 at.invariant.1 c.requires.2 c.requires.3 has)

pub returns-then-wait-rank : goal.returns-then-wait-rank
returns-then-wait-rank c =
    let at = c.ranks in
    let wait = c.of-wait in
    let has = ap rank_of_request (sym wait.ensures) ∙ sym wait.result.is_its_rank ∙ c.if-wait-rank.true in
    wait.ensures ∙ sym (wait_hit _ _ c.ranks-test.true at.invariant.0 at.invariant.1 c.requires.3
    (λ is. c.if-command-rank.false (c.args.command.is_its_rank ∙ is)) has)

pub returns-then-ranks-at : goal.returns-then-ranks-at
returns-then-ranks-at c =
    let at = c.ranks in
    rw (c.section_asks-found.ensures, c.section_at.ensures)
    (sym
    (section_hit _ _ c.ranks-test.true at.invariant.0 at.invariant.1 _ c.loop-at.invariant.0 _ c.if-ranks-at.true
    (λ t h. omega arith)))
