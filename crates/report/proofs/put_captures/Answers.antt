use Rattle.std.proofs.Common.{ap, ◌∙◌, ◌≤◌, ◌<◌, List, length, get_or}
use Rattle.book.specs.Format.{entries_of, no_entry}
use Rattle.book.specs.declared.Entry.{Entry}
use Rattle.report.proofs.Puts.{put_one, room_first}
use Rattle.report.proofs.Walking.{rest, entries_are, table_room, walk_start, walk_room, walk_next, walk_done, lines_printed}
use Rattle.report.proofs.put_captures.Goals as goal

pub loop-i-init : goal.loop-i-init
loop-i-init c =
    let book = c.args.book.now in
    let room = table_room c.requires in
    walk_start book room (put_one (room_first (rest book 0) room) c.put.ensures)

pub put_capture-requires : goal.put_capture-requires
put_capture-requires c =
    let book = c.args.book.now in
    let all = c.captures-e-items.ensures ∙ entries_are c.requires in
    let h : c.loop-i.i < length (entries_of book) = rw all at c.loop-i-test.true in
    walk_room book c.loop-i.invariant h _ (ap (λ (es : List Entry). get_or es c.loop-i.i no_entry) all)

pub loop-i-preserved : goal.loop-i-preserved
loop-i-preserved c =
    let book = c.args.book.now in
    let all = c.captures-e-items.ensures ∙ entries_are c.requires in
    let h : c.loop-i.i < length (entries_of book) = rw all at c.loop-i-test.true in
    walk_next book c.loop-i.invariant h _ (ap (λ (es : List Entry). get_or es c.loop-i.i no_entry) all)
    c.put_capture.ensures

pub returns : goal.returns
returns c =
    let book = c.args.book.now in
    let all = c.captures-e-items.ensures ∙ entries_are c.requires in
    let end : length (entries_of book) ≤ c.loop-i.i = rw all at c.loop-i-test.false in
    lines_printed c.requires (walk_done book c.loop-i.invariant end)
