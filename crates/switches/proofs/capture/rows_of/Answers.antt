-- The checks stand in their order.
use Rattle.std.proofs.Common.{sym, arith}
use Rattle.switches.proofs.Refusals.{few_refused, steps_taken, rows_taken}
use Rattle.switches.proofs.capture.rows_of.Goals as goal

pub returns-then-rows-steps-clause-refusal : goal.returns-then-rows-steps-clause-refusal
returns-then-rows-steps-clause-refusal c =
    few_refused c.args.capture.now c.args.steps (sym c.in_ok-size_refusal.ensures) (omega arith)

pub returns-clause-refusal : goal.returns-clause-refusal
returns-clause-refusal c =
    steps_taken c.args.capture.now c.args.steps (sym c.in_ok-size_refusal.ensures) (omega arith)

pub returns-clause-rows : goal.returns-clause-rows
returns-clause-rows c =
    rows_taken c.args.capture.now c.args.steps (sym c.in_ok-size_refusal.ensures) c.as_chunks.ensures.front
    c.if-rows-steps.false
