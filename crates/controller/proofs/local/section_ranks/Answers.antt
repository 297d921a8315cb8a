use Rattle.std.proofs.Common.{arith, ◌≡◌, sym, ap, ◌∙◌, ◌∷◌, ℕ, ◌≤◌, zero-le, List, length, drop, slice_index}
use lib.ListN.{length-replicate}
use Rattle.controller.specs.Asking.{asks}
use Rattle.controller.specs.Rules.{condition}
use Rattle.controller.proofs.Sections.{past_first, none_ranked, laid_ranked}
use Rattle.controller.proofs.local.section_ranks.Goals as goal

-- what section c asks for, c being 1 or more
asks_at : (mask protection c : ℕ) (conditions : List ℕ) → 1 ≤ c
    → condition mask c (slice_index conditions c) ≡ asks mask (protection ∷ drop 1 conditions) c
asks_at mask protection c conditions some =
    ap (condition mask c) (sym (past_first protection conditions c (omega arith)))

pub loop-c-init : goal.loop-c-init
loop-c-init c =
    let a = c.args in
    let all = a.protection ∷ drop 1 a.conditions.now in
    let blank = ap length c.requires.2 ∙ length-replicate {A = ℕ} 16 0 in (
    laid_ranked a.mask all a.last c.condition.result a.ranks.now _ 0 0 c.lay-past_last.result
    (rw c.requires.2 (none_ranked a.mask all a.last)) blank zero-le c.condition.ensures c.lay-past_last.ensures
    )

pub loop-c-preserved : goal.loop-c-preserved
loop-c-preserved c =
    let a = c.args in
    let at = c.loop-c in
    let looked = c.loop-c-test.true in
    let few = c.requires.1 in
    laid_ranked a.mask (a.protection ∷ drop 1 a.conditions.now) a.last c.condition-asked.result at.ranks _ at.c
    at.past_last c.lay-past_last-in-loop-c.result at.invariant.0 at.invariant.1 (omega arith)
    (c.condition-asked.ensures ∙ asks_at a.mask a.protection at.c a.conditions.now at.auto.c)
    c.lay-past_last-in-loop-c.ensures

pub returns : goal.returns
returns c =
    let at = c.loop-c in
    let end = c.loop-c-test.false in
    let most = at.auto.c-end c.requires.0 in
    let whole : at.c ≡ length c.args.conditions.now = omega arith in
    rw whole at at.invariant.0
