use Rattle.std.proofs.Common.{◌∙◌, rules}
use Rattle.basics.proofs.Bytes.{four_be}
use Rattle.book.proofs.Laid.{part_placed}
use Rattle.book.proofs.format.placed_at.Goals as goal

pub returns : goal.returns
returns c =
    rw (c.copy_from_slice.ensures.after, c.to_be_bytes.ensures ∙ four_be c.args.at (search rules))
    (part_placed c.args.part.now c.args.at c.fits-part c.told-part)
