use Rattle.explain.proofs.Settling.{settling_next}
use Rattle.explain.proofs.filling.settle.Goals as goal

pub loop-at-preserved : goal.loop-at-preserved
loop-at-preserved c =
    settling_next c.loop-at.invariant c.loop-at-test.true c.settled_word.ensures c.idle_back-behind.ensures
