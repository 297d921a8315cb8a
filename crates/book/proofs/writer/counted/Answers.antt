use Rattle.std.proofs.Common.{arith, rules, ◌+◌, ◌-◌, ◌*◌, sym, ◌∙◌, drop, length-drop, get_or}
use Rattle.book.specs.Format.{contents_in}
use Rattle.book.proofs.Counted.{counted_handed}
use Rattle.book.proofs.Left.{whole_left}
use Rattle.book.proofs.writer.counted.Goals as goal

pub slice_bounds-result-end : goal.slice_bounds-result-end
unfolding contents_in
slice_bounds-result-end c = search rules

pub returns : goal.returns
unfolding contents_in
returns c =
    let bytes = c.args.contents.now in
    let k = get_or bytes 0 0 in
    let few = counted_handed bytes c.requires in
    whole_left k (1 + 12 * c.from.result - 1) (drop 1 bytes) (omega arith) (simp length-drop (omega arith)) ∙ sym few
