use Rattle.std.proofs.Common.{◌+◌, length, arith, sym}
use borrow.Rule.Slice.PartMut.{Post-is}
use Rattle.basics.proofs.Bytes.{lesser, sets_past, some_put}
use Rattle.basics.proofs.put_bytes.Goals as goal

pub returns-then-at-s : goal.returns-then-at-s
returns-then-at-s c =
    let a = c.args in
    let few = c.min-size.result in
    let least = lesser (length a.bytes.now) (length a.s.now) a.at few (omega arith) c.min-size.ensures in
    rw (c.copy_from_slice.ensures.after, Post-is a.at (a.at + few) a.s.now (omega arith))
    (some_put a.bytes.now a.s.now a.at few least.0 least.1 least.2)

pub returns-else-at-s : goal.returns-else-at-s
returns-else-at-s c = sym (sets_past c.args.bytes.now c.args.s.now c.args.at c.if-at-s.false)
