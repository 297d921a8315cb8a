use Rattle.controller.specs.Rules.{asked}
use Rattle.explain.proofs.Words.{word_below}
use Rattle.explain.proofs.filling.conditions_kept.Goals as goal

pub with_marks-requires : goal.with_marks-requires
with_marks-requires c =
    let a = c.args in
    rw (c.conditions_word-word.ensures, c.asked-x.ensures) (word_below a.s.mask (asked a.sent) c.requires)
