-- 16 is asked for before 12, and nothing is put before both.
use Rattle.std.proofs.Common.{rules}
use Rattle.std.proofs.lemmas.Result.{err_from_is_err_and}
use Rattle.switches.proofs.Extended.{steps_refused, list_refused, room_refused, fits, put_few, all_put}
use Rattle.switches.proofs.extend.Goals as goal

pub returns-in_err-rows : goal.returns-in_err-rows
returns-in_err-rows c =
    let p = err_from_is_err_and c.from_residual.result c.from_residual.ensures.1 in
    let all =
    steps_refused c.args.capture.now c.from-listed.result c.from-count.result c.args.table.now _
    c.in_err-rows.ensures.refusal in
    rw (p.1, p.2, ← c.from-listed.ensures, ← c.from-count.ensures) (record { answers = all.0; table_after = all.1 })

pub returns-then-not-lists : goal.returns-then-not-lists
returns-then-not-lists c =
    let all =
    list_refused c.args.capture.now c.from-listed.result c.from-count.result c.args.table.now
    c.in_ok-rows.ensures.rows c.in_ok-rows.ensures.refusal c.lists.ensures c.if-not-lists.true in
    rw (← c.from-listed.ensures, ← c.from-count.ensures) (record { answers = all.0; table_after = all.1 })

pub returns-then-over_room : goal.returns-then-over_room
returns-then-over_room c =
    let all =
    room_refused c.args.capture.now c.from-listed.result c.from-count.result c.args.table.now
    c.in_ok-rows.ensures.rows c.in_ok-rows.ensures.refusal c.lists.ensures c.if-not-lists.false
    c.over_room.ensures c.if-over_room.true in
    rw (← c.from-listed.ensures, ← c.from-count.ensures) (record { answers = all.0; table_after = all.1 })

pub put_changes-number-requires : goal.put_changes-number-requires
put_changes-number-requires c =
    fits c.args.capture.now c.from-listed.result c.from-count.result c.args.table.now
    c.in_ok-rows.ensures.rows c.in_ok-rows.ensures.refusal c.lists.ensures c.if-not-lists.false
    c.over_room.ensures c.if-over_room.false

pub overflow_cast-result : goal.overflow_cast-result
overflow_cast-result c =
    let few = put_few c.in_ok-rows.ensures.rows c.put_changes-number.ensures in
    search rules

pub returns : goal.returns
returns c =
    let all =
    all_put c.args.capture.now c.from-listed.result c.from-count.result c.args.table.now
    c.in_ok-rows.ensures.rows c.in_ok-rows.ensures.refusal c.lists.ensures c.if-not-lists.false
    c.over_room.ensures c.if-over_room.false _ _ c.put_changes-number.ensures in
    rw (← c.from-listed.ensures, ← c.from-count.ensures) (record { answers = all.0; table_after = all.1 })
