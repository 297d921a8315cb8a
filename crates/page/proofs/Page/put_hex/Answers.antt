-- `put_hex` meets its contract.
use Rattle.page.proofs.Numbers.{two_digits}
use Rattle.page.proofs.Page.put_hex.Goals as goal

pub returns : goal.returns
returns c = rw (two_digits c.args.b _ _ c.digit.ensures c.digit-2.ensures) at c.put.ensures
