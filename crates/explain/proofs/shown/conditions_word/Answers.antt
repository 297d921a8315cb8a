use Rattle.explain.proofs.Words.{shifted}
use Rattle.explain.proofs.shown.conditions_word.Goals as goal

pub returns : goal.returns
returns c = rw (c.from.ensures, c.bad_for.ensures) (shifted c.args.mask c.args.x c.requires)
