use Rattle.std.proofs.Common.{◌≡◌, ◌+◌, ◌-◌, length, arith}
use Rattle.basics.proofs.Bytes.{lesser, bytes_taken, none_taken}
use Rattle.basics.proofs.bytes_at.Goals as goal

pub returns-then-at-s : goal.returns-then-at-s
returns-then-at-s g c =
    let a = c.args in
    let few = c.min-size.result in
    let least = lesser g.row.SIZE (length a.s.now) a.at few (omega arith) c.min-size.ensures in
    let part : a.at + few - a.at ≡ few = omega arith in
    rw (c.copy_from_slice.ensures.after, part) (bytes_taken g.row.SIZE few a.s.now a.at least.0 least.1 least.2)

pub returns-else-at-s : goal.returns-else-at-s
returns-else-at-s g c = none_taken g.row.SIZE c.args.s.now c.args.at c.if-at-s.false
