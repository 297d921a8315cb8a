-- The rule of each table is one test, computed over its sixteen entries.
use Rattle.pair.specs.Request.{rank_in}
use Rattle.pair.proofs.Rows.{rank_at_0, rank_at_section}
use Rattle.pair.proofs.request.rank.Goals as goal

pub returns-then-channel-eq0 : goal.returns-then-channel-eq0
unfolding rank_in
returns-then-channel-eq0 c =
    rw c.from-at.ensures (rank_at_0 c.args.code c.args.channel c.if-channel-eq0.true c.if-code-ge16.false)

pub returns-else-channel-eq0 : goal.returns-else-channel-eq0
unfolding rank_in
returns-else-channel-eq0 c =
    rw c.from-at.ensures (rank_at_section c.args.code c.args.channel c.if-channel-eq0.false c.if-code-ge16.false)
