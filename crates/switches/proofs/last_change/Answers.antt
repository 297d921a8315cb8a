use Rattle.std.proofs.Common.{rules, ℕ, leb, ◌∙◌}
use Rattle.std.proofs.lemmas.Result.{err_from_is_err_and}
use Rattle.std.proofs.lemmas.List.Sorted.{IsPartitionPoint-from_clause, IsPartitionedBy-leb}
use Rattle.switches.proofs.Looked.{steps_refused, list_refused, not_falling, looked}
use Rattle.switches.proofs.last_change.Goals as goal

pub returns-in_err-rows : goal.returns-in_err-rows
returns-in_err-rows c =
    let p = err_from_is_err_and c.from_residual.result c.from_residual.ensures.1 in
    let refusal = c.in_err-rows.ensures.refusal in
    rw (p.1, p.2)
    (steps_refused c.args.capture.now c.args.list.now c.args.step _ (rw c.from.ensures at refusal))

pub returns-then-not-is_list_of : goal.returns-then-not-is_list_of
returns-then-not-is_list_of c =
    let a = c.args in
    let h = c.in_ok-rows.ensures in
    let g = rw c.from.ensures at h in
    list_refused a.capture.now a.list.now a.step g.rows g.refusal c.is_list_of.ensures c.if-not-is_list_of.true

pub returns : goal.returns
returns c =
    let a = c.args in
    let xs = c.args.list.now in
    let h = c.in_ok-rows.ensures in
    let g = rw c.from.ensures at h in
    looked a.capture.now xs a.step g.rows g.refusal c.is_list_of.ensures c.if-not-is_list_of.false
    c.partition_point-passed.result c.partition_point-passed.ensures.bound
    (IsPartitionPoint-from_clause (λ (y : ℕ). leb y c.args.step) xs _
    c.partition_point-passed.ensures.partitioned
    (IsPartitionedBy-leb (λ (x : ℕ). x) xs c.args.step
    (not_falling a.capture.now xs a.step g.rows g.refusal c.is_list_of.ensures c.if-not-is_list_of.false))
    (λ a r f k. search rules))
    (c.copied.ensures ∙ c.last.ensures.value)
