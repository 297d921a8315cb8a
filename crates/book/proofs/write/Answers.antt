use Rattle.std.proofs.Common.{sym, ap, ◌∙◌, length}
use Rattle.basics.proofs.Refusals.{number_some}
use Rattle.book.specs.Format.{contents_in}
use Rattle.book.specs.Writer.{Wrote}
use Rattle.book.proofs.Books.{writing_refusal, written_output, refused_output}
use Rattle.book.proofs.write.Goals as goal

pub returns-in_err-size-clause-out_after : goal.returns-in_err-size-clause-out_after
returns-in_err-size-clause-out_after c =
    let a = c.args in
    let contents = contents_in a.contents.now in
    let told = ap (λ (w : Wrote). w.refusal) c.in_err-size.ensures.numbers in
    refused_output contents a.bodies.now a.out.now
    (λ z. number_some c.in_err-size.field-0.0
    (told ∙ writing_refusal contents (length a.bodies.now) (length a.out.now) ∙ z))

pub put_book-requires : goal.put_book-requires
put_book-requires c =
    let a = c.args in
    let told = ap (λ (w : Wrote). w.refusal) c.in_ok-size.ensures.numbers in
    sym (writing_refusal (contents_in a.contents.now) (length a.bodies.now) (length a.out.now)) ∙ sym told

pub returns-clause-out_after : goal.returns-clause-out_after
returns-clause-out_after c =
    let a = c.args in
    let contents = contents_in a.contents.now in
    let told = ap (λ (w : Wrote). w.refusal) c.in_ok-size.ensures.numbers in
    let none = sym (writing_refusal contents (length a.bodies.now) (length a.out.now)) ∙ sym told in
    c.put_book.ensures ∙ written_output contents a.bodies.now a.out.now none
