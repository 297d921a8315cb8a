-- The verdict is the judge's, which is known before anything is put.
use Rattle.std.proofs.Common.{refl}
use Rattle.report.specs.Table.{line_text, IsVerdict}
use Rattle.report.proofs.Puts.{behind, field_put, room_behind}
use Rattle.report.proofs.line.put_capture.Goals as goal

pub put_verdict-requires : goal.put_verdict-requires
unfolding line_text
put_verdict-requires c =
    let v = c.judge-verdict.result in
    let right : IsVerdict c.args.book.now c.args.e v = rw (c.body.ensures, c.settings.ensures) at c.judge-verdict.ensures in
    let all = c.requires v right in
    let first = field_put _ refl all c.put_field.ensures in
    room_behind (room_behind all first) (field_put _ c.from.ensures (room_behind all first) c.put_field-2.ensures)

pub returns : goal.returns
unfolding line_text
returns c =
    let v = c.judge-verdict.result in
    let right : IsVerdict c.args.book.now c.args.e v = rw (c.body.ensures, c.settings.ensures) at c.judge-verdict.ensures in
    let all = c.requires v right in
    let first = field_put _ refl all c.put_field.ensures in
    let second = field_put _ c.from.ensures (room_behind all first) c.put_field-2.ensures in
    record { verdict = v; right = right; put = behind first (behind second c.put_verdict.ensures) }
