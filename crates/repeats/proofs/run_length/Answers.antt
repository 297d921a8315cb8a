-- Rows, then blocks of them, then rows.
use Rattle.std.proofs.Common.{ap, ◌∙◌, List, ℕ}
use Rattle.repeats.specs.Repeats.{leading}
use Rattle.repeats.proofs.Pieces.{parts, run_short, run_whole}
use Rattle.repeats.proofs.run_length.Goals as goal

pub returns-then-rows : goal.returns-then-rows
returns-then-rows c =
    let h = c.in-Some.ensures.cases in
    run_short c.args.row.now (parts h.0 h.1 h.2)
    (c.leading-rows.ensures.value ∙ ap (λ (l : List (List ℕ)). leading c.args.row.now l) c.as_chunks-2.ensures.front)
    c.if-rows.true

pub returns : goal.returns
returns c =
    let h = c.in-Some.ensures.cases in
    run_whole c.args.row.now (parts h.0 h.1 h.2)
    (c.leading-rows.ensures.value ∙ ap (λ (l : List (List ℕ)). leading c.args.row.now l) c.as_chunks-2.ensures.front)
    c.if-rows.false
    (c.leading-blocks.ensures.value
    ∙ ap (λ (l : List (List ℕ)). leading c.in-Some.block.now l) c.as_chunks-3.ensures.front)
    (c.leading-last.ensures.value ∙ ap (λ (l : List (List ℕ)). leading c.args.row.now l) c.as_chunks-4.ensures.front)
