-- What is written fits a byte, since each part has room in its four bits.
use Rattle.std.proofs.Common.{arith, rules}
use Rattle.basics.proofs.Tests.{tests}
use Rattle.pair.proofs.Coding.{FourBits, four_bits}
use Rattle.pair.proofs.encode.Goals as goal

pub overflow_mul-result : goal.overflow_mul-result
overflow_mul-result c =
    let a = c.args in
    let b : FourBits a.p = four_bits a.n a.p (search rules) (search (rules, tests)) in omega arith

pub overflow_add-result : goal.overflow_add-result
overflow_add-result c =
    let a = c.args in
    let b : FourBits a.p = four_bits a.n a.p (search rules) (search (rules, tests)) in omega arith
