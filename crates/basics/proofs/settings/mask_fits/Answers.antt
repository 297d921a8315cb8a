use Rattle.std.proofs.Common.{rules, arith, ◌≡◌, ◌/◌, ◌^◌, ◌<◌, ◌≤◌, lit<}
use borrow.Author.Tests.{le-leb}
use native.Mathlib.Nat.{div-eq_of_lt, pow-le-pow_right}
use Rattle.basics.proofs.settings.mask_fits.Goals as goal

-- where n is 16 or more, every mask is below 2 ^ n
pub returns-then-n-ge16 : goal.returns-then-n-ge16
returns-then-n-ge16 c =
    let a = c.args in
    let least : 2 ^ 16 ≤ 2 ^ a.n = pow-le-pow_right (lit< tt) c.if-n-ge16.true in
    let below : a.mask < 2 ^ 16 = search rules in
    let none : a.mask / 2 ^ a.n ≡ 0 = div-eq_of_lt (omega arith) in
    rw (none, le-leb 16 a.n c.if-n-ge16.true)
