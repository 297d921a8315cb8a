-- `put_number` meets its contract, by the library's.
use mathlib.Core.Path.{◌∙◌}
use Prim.Native.Nat.{◌^◌, ◌<◌}
use Rattle.page.proofs.Numbers.{library_digits}
use borrow.Author.Rules.{rules}
use Rattle.page.proofs.Page.put_number.Goals as goal

pub returns : goal.returns
returns c =
    let told = c.decimal-k.ensures in
    let small : c.args.v < 2 ^ 64 = search rules in
    rw (told.digits ∙ library_digits c.decimal-k.result c.args.v small told.len) at c.put.ensures
