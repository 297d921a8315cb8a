use Rattle.explain.proofs.Looks.{look_rank}
use Rattle.explain.proofs.table.Table.rank_of.Goals as goal

pub returns : goal.returns
returns c = rw (c.rank_in.ensures, c.number.ensures) (look_rank c.args.k1 c.requires)
