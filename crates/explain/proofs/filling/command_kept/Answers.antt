use Rattle.std.proofs.Common.{◌∙◌, ◌+◌, ◌*◌}
use Rattle.controller.specs.Rules.{asked, held}
use Rattle.explain.specs.Cause.{rank_held, louder, deciding, command_for, channel_for}
use Rattle.explain.proofs.Commands.{held_rank}
use Rattle.explain.proofs.filling.command_kept.Goals as goal

pub returns : goal.returns
returns c =
    let s = c.args.s in
    let last = c.asked-last.ensures in
    let x = c.asked-x.ensures in
    let prior =
    c.rank_held.ensures ∙ (λ i. rank_held (held (last i).request) (last i).rank) ∙ held_rank (asked s.sent) in
    let rank =
    c.deciding-rank.ensures ∙ (λ i. deciding (c.rank_of.ensures i) (x i).request (x i).rank) in
    let loud =
    c.louder-loud.ensures ∙ (λ i. louder c.args.hold (rank i) (prior i) (c.wait_behind.ensures i)) in
    c.command_word.ensures
    ∙ (λ i. 256 * command_for (last i).request (x i).request (loud i) + channel_for (last i).request (x i).request)
