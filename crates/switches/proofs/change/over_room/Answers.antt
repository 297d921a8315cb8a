-- There are no more changes than steps.
use Rattle.std.proofs.Common.{rules}
use Rattle.switches.proofs.Counting.{few_left}
use Rattle.switches.proofs.change.over_room.Goals as goal

pub overflow_add-result : goal.overflow_add-result
overflow_add-result c =
    let few = few_left c.args.rows.now c.args.from c.requires.0 in
    let count = c.count_changes.ensures in
    search rules

pub returns-else-room-known : goal.returns-else-room-known
returns-else-room-known c =
    let few = few_left c.args.rows.now c.args.from c.requires.0 in
    search rules
