-- In each case of the verdict.
use Rattle.std.proofs.Common.{◌≡◌, ap, ◌∙◌, Ok}
use Rattle.explain.specs.declared.Verdict.{Verdict}
use Rattle.explain.specs.declared.Verdict.TheVariants as verdict
use Rattle.report.specs.Table.{Answered, chars, verdict_text}
use Rattle.report.proofs.Puts.{behind, ending_put, field_put, room_behind}
use Rattle.report.proofs.line.put_verdict.Goals as goal

-- told by the verdict inside
text_of : {answer : Answered} {given : Verdict} (shown : Verdict) → answer ≡ Ok given → given ≡ shown
    → verdict_text answer ≡ verdict_text (Ok shown)
text_of shown e f = ap verdict_text (e ∙ ap Ok f)

pub returns-in-Ok-Explained : goal.returns-in-Ok-Explained
returns-in-Ok-Explained c =
    let steps = field_put _ c.from.ensures c.requires c.put_field.ensures in
    let is : c.args.verdict ≡ Ok c.in-Ok-Explained.field-0 = c.in-Ok-Explained.is in
    let text = text_of (verdict.Explained c.in-Ok-Explained.all) is (rw is at c.in-Ok-Explained.field-0-is) in
    behind steps
    (ending_put (chars "explained ") text c.from-in-Ok-Explained.ensures (room_behind c.requires steps) c.put_last.ensures)

pub returns-in-Ok-Unexplained : goal.returns-in-Ok-Unexplained
returns-in-Ok-Unexplained c =
    let steps = field_put _ c.from.ensures c.requires c.put_field.ensures in
    let is : c.args.verdict ≡ Ok c.in-Ok-Unexplained.field-0 = c.in-Ok-Unexplained.is in
    let text = text_of (verdict.Unexplained c.in-Ok-Unexplained.first) is (rw is at c.in-Ok-Unexplained.field-0-is) in
    behind steps
    (ending_put (chars "unexplained ") text c.from-in-Ok-Unexplained.ensures (room_behind c.requires steps)
    c.put_last-in-Ok-Unexplained.ensures)

pub returns-in-Err : goal.returns-in-Err
returns-in-Err c =
    let steps = field_put _ c.from.ensures c.requires c.put_field.ensures in
    behind steps
    (ending_put (chars "refused ") (ap verdict_text c.in-Err.is) (c.from-in-Err.ensures ∙ c.number.ensures)
    (room_behind c.requires steps) c.put_last-in-Err.ensures)
