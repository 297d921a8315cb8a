-- What was read is put, or the refusal.
use Rattle.std.proofs.Common.{rules, sym, ap, ◌∙◌, ◌≤◌, length}
use Rattle.basics.proofs.Refusals.{number_some}
use Rattle.book.specs.Reader.{Reading}
use Rattle.book.proofs.Trips.{read_refusal}
use Rattle.report.proofs.Tables.{refused_printed}
use Rattle.report.proofs.put_table.Goals as goal
use Rattle.report.proofs.put_table.Goals.{in-Ok, in-Err}

pub put_captures-requires : goal.put_captures-requires
put_captures-requires c =
    let told = c.in-Ok.ensures.numbers in
    record {
      large = search rules;
      start = c.new-table.ensures.start;
      unrefused = sym (ap (λ (r : Reading). r.refusal) told ∙ read_refusal c.args.book.now);
      read = ap (λ (r : Reading). r.contents) told;
    }

pub returns : goal.returns
returns c =
    let large : 2048 ≤ length c.new-table.result.bytes.now = search rules in
    elim c.match-read.branch [
      | in-Ok w ↦ rw w.table-is (rw c.new-table.ensures.bytes at w.put_captures.ensures.printed)
      | in-Err w ↦
          let number = ap (λ (r : Reading). r.refusal) w.in-Err.ensures.numbers ∙ read_refusal c.args.book.now in
          rw w.table-is
          (rw c.new-table.ensures.bytes at (refused_printed large c.new-table.ensures.start number (number_some w.in-Err.refusal) (w.from.ensures ∙ w.number.ensures) w.put_last.ensures))
    ]
