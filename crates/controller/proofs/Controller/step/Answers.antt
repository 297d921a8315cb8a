-- Each number that is handed on is that of its K1.
use Rattle.std.proofs.Common.{rules, ◌≡◌, sym, ℕ, ◌<◌, List, get_or, eq-eqb}
use borrow.Author.Tests.{ne_eqb}
use Rattle.basics.specs.Refusal.{refusal_number}
use Rattle.basics.proofs.Refusals.{number_some}
use Rattle.pair.specs.Request.{requests}
use Rattle.pair.specs.Table.{number_for, table_of}
use Rattle.pair.proofs.Looking.{number_at}
use Rattle.controller.specs.Refusals.{refusal}
use Rattle.controller.specs.Step.{step}
use Rattle.controller.proofs.Making.{told_answers}
use Rattle.controller.proofs.Stepping.{step_back}
use Rattle.controller.proofs.Controller.step.Goals as goal

looked : (table : List ℕ) → table ≡ table_of requests → (k1 i : ℕ) → i ≡ k1 → k1 < 256
    → get_or table i 0 ≡ number_for requests k1
looked table e k1 i same below = rw (same, e) (number_at requests k1 below)

pub invariant_of-numbered : goal.invariant_of-numbered
invariant_of-numbered c =
    let s = c.args.self in
    let table = c.numbers-table in
    record {
      accepted_is = looked table.result table.ensures s.k1 c.from.result c.from.ensures (search rules);
      sent_is = looked table.result table.ensures s.sent c.from-2.result c.from-2.ensures (search rules);
      held_is = looked table.result table.ensures s.held c.from-3.result c.from-3.ensures (search rules);
    }

pub invariant_of-received : goal.invariant_of-received
invariant_of-received c =
    let table = c.numbers-table in
    record {
      number_is = looked table.result table.ensures c.args.k1 c.from-4.result c.from-4.ensures (search rules);
    }

pub returns-in-Ok : goal.returns-in-Ok
unfolding step
returns-in-Ok c =
    let a = c.args in
    let read = c.in-Ok.ensures.read in
    let none = eq-eqb (refusal a.self a.conditions.now a.command a.channel) 0 (sym c.in-Ok.ensures.refused) in
    told_answers (step_back _) (rw none (rw (read.0, read.1) at c.moved.ensures))

pub returns-in-Err : goal.returns-in-Err
unfolding step
returns-in-Err c = told_answers (step_back _) (rw (← c.in-Err.ensures.refused, ne_eqb (refusal_number c.in-Err.refusal) 0 (number_some c.in-Err.refusal)))
