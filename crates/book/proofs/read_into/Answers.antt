use Rattle.std.proofs.Common.{rules, arith, refl, sym, ◌∙◌, ◌-◌, drop, length-drop}
use Rattle.std.proofs.lemmas.Result.{err_from_is_err_and}
use Rattle.std.proofs.lemmas.List.{length-take-le}
use Rattle.basics.proofs.Refusals.{number_some}
use Rattle.book.proofs.Entries.{head_accepted}
use Rattle.book.proofs.Trips.{read_refusal, listed_bytes, listed_zeros}
use Rattle.book.proofs.read_into.Goals as goal

pub returns-in_err-check-clause-value : goal.returns-in_err-check-clause-value
returns-in_err-check-clause-value c =
    let p = err_from_is_err_and c.from_residual.result c.from_residual.ensures.1 in
    rw (p.1, p.2) (c.in_err-check.ensures ∙ sym (read_refusal c.args.book.now))

pub returns-in_err-check-clause-out_after : goal.returns-in_err-check-clause-out_after
returns-in_err-check-clause-out_after c =
    listed_zeros c.args.book.now (λ z. number_some c.in_err-check.field-0.0 (c.in_err-check.ensures ∙ z)) 769 refl

pub bounds-book-1 : goal.bounds-book-1
bounds-book-1 c = omega (arith, (head_accepted c.args.book.now (sym c.in_ok-check.ensures)).long)

pub slice_bounds-listed-end : goal.slice_bounds-listed-end
slice_bounds-listed-end c =
    let uncut = (head_accepted c.args.book.now (sym c.in_ok-check.ensures)).uncut in
    let ends = c.first_body-end.ensures in
    search rules

pub slice_bounds-copy_from_slice-end : goal.slice_bounds-copy_from_slice-end
slice_bounds-copy_from_slice-end c =
    let book = c.args.book.now in
    let head = head_accepted book (sym c.in_ok-check.ensures) in
    let ends = c.first_body-end.ensures in
    let long = length-take-le (c.first_body-end.result - 1) (drop 1 book) (simp length-drop (omega (arith, head.uncut))) in
    search rules

pub returns-clause-value : goal.returns-clause-value
returns-clause-value c = c.in_ok-check.ensures ∙ sym (read_refusal c.args.book.now)

pub returns-clause-out_after : goal.returns-clause-out_after
returns-clause-out_after c =
    let book = c.args.book.now in
    let ends = c.first_body-end.ensures in
    let bytes = listed_bytes book (sym c.in_ok-check.ensures) (λ i. (c.type_inv.book i).fits) 769
    (c.first_body-end.result - 1) refl (omega arith) in
    rw (c.copy_from_slice.ensures.after, bytes.0) bytes.1
