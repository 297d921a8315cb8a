-- Refused for the options, refused as any step, or what the step of the record that the bytes hold answers.
use Rattle.std.proofs.Common.{◌≡◌, refl, sym, ap, subst, ◌∙◌, true, List, ℕ, get_or}
use borrow.Author.Tests.{lt-leb, le-leb}
use Rattle.basics.specs.Settings.{options_fit}
use Rattle.controller.specs.Step.{Stepped, step}
use Rattle.controller.specs.declared.Controller.{Controller}
use Rattle.chainplater.specs.Given.{StepOf}
use Rattle.chainplater.specs.Record.{record_in, outcome_bytes, step_bytes}
use Rattle.chainplater.proofs.Bytes.{step_of}
use Rattle.chainplater.proofs.record.step_bytes.Goals as goal

module _ (given : List ℕ) (k1 k2 : ℕ) (conditions : List ℕ) (command channel : ℕ) where
  -- the step of the record that the bytes hold
  abbrev outcome : Stepped
  outcome = step (record_in given) k1 k2 conditions command channel

  stepped : {s : Controller} {o : Stepped} → s ≡ record_in given → o ≡ step s k1 k2 conditions command channel
      → o ≡ outcome
  stepped same e = e ∙ ap (λ (s : Controller). step s k1 k2 conditions command channel) same

  -- so its bytes are the answer
  answered : options_fit (get_or given 1 0) ≡ true
      → outcome_bytes outcome ≡ step_bytes given k1 k2 conditions command channel
  unfolding step_bytes
  answered fits = rw fits

pub returns-then-given-gt1 : goal.returns-then-given-gt1
unfolding step_bytes
returns-then-given-gt1 c =
    rw (
      c.refused_bytes.ensures,
      c.number.ensures,
      c.options_refusal.ensures,
      lt-leb (get_or c.args.given.now 1 0) 1 c.if-given-gt1.true,
    ) refl

pub outcome_bytes-requires : goal.outcome_bytes-requires
outcome_bytes-requires c =
    let a = c.args in
    let given = a.given.now in
    let fits = le-leb (get_or given 1 0) 1 c.if-given-gt1.false in
    subst (StepOf given)
    (sym (stepped given a.k1 a.k2 a.conditions.now a.command a.channel c.record_in.ensures c.step-answer.ensures.numbers))
    (step_of given c.told-given fits a.k1 a.k2 a.conditions.now a.command a.channel)

pub returns : goal.returns
returns c =
    let a = c.args in
    let given = a.given.now in
    let fits = le-leb (get_or given 1 0) 1 c.if-given-gt1.false in
    c.outcome_bytes.ensures
    ∙ ap outcome_bytes (stepped given a.k1 a.k2 a.conditions.now a.command a.channel c.record_in.ensures c.step-answer.ensures.numbers)
    ∙ answered given a.k1 a.k2 a.conditions.now a.command a.channel fits
