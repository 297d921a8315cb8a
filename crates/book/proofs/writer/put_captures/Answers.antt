-- a turn of the loop writes an entry and a body
use Rattle.std.proofs.Common.{ap, ◌*◌, arith, inl, ◌≡◌, ◌∙◌}
use Rattle.book.specs.Format.{contents_in, entries_left}
use Rattle.book.specs.Writer.{counted}
use Rattle.book.specs.declared.Entry.{Entry}
use Rattle.book.proofs.Refusals.{writable}
use Rattle.book.proofs.Filling.{fill_start, fill_done, fill_inside, fill_turn}
use Rattle.book.proofs.writer.put_captures.Goals as goal

pub counted-requires : goal.counted-requires
counted-requires c = (writable (contents_in c.args.contents.now) _ _ c.requires).few

pub loop-i-init : goal.loop-i-init
unfolding contents_in
loop-i-init c =
    let a = c.args in
    let contents = contents_in a.contents.now in
    let few = (writable contents _ _ c.requires).few in
    let same = c.into_iter-i-iterator.ensures.into_iter_gives in
    let whole : entries_left c.into_iter-i-iterator.result.iter ≡ counted contents =
    rw (same, c.enumerate-i-items.ensures.source) c.counted.ensures in
    let none : c.into_iter-i-iterator.result.count ≡ 0 = rw same c.enumerate-i-items.ensures.count in
    let filling =
    fill_start contents a.bodies.now a.out.now _ _ c.first_body-at.result c.requires whole none c.first_body-at.ensures in
    ((tt, tt, inl (omega (arith, filling.few))), tt, filling)

pub split_at-requires : goal.split_at-requires
split_at-requires c =
    let sized = c.body_size.ensures ∙ ap (λ (e : Entry). 4 * e.steps) c.entry_in.ensures in
    fill_inside c.loop-i.invariant.2 c.in-Some.ensures.steps.0 c.body_size.result sized

pub loop-i-preserved : goal.loop-i-preserved
unfolding contents_in
loop-i-preserved c =
    let s = c.in-Some.ensures.steps in
    let sized = c.body_size.ensures ∙ ap (λ (e : Entry). 4 * e.steps) c.entry_in.ensures in
    let cut = c.split_at in
    let filling =
    fill_turn c.loop-i.invariant.2 s.0 c.body_size.result sized c.copy_from_slice.new.self cut.result.0.now
    c.copy_from_slice-in-loop-i.new.self cut.result.1.now c.in-Some.i c.next.new.self.count
    (c.copy_from_slice.ensures.after ∙ c.placed_at.ensures) cut.ensures.front
    c.copy_from_slice-in-loop-i.ensures.after cut.ensures.back s.1 s.2 in
    ((tt, tt, inl (omega (arith, filling.few))), tt, filling)

pub returns : goal.returns
returns c = fill_done c.loop-i.invariant.2 c.in-None.ensures.steps.0.0
