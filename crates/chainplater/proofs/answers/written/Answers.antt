-- The size is that of the numbers that the writer's answer tells.
use Rattle.std.proofs.Common.{◌<◌, ◌^◌, arith, ap, ◌∙◌, length}
use Rattle.book.specs.Format.{contents_in}
use Rattle.book.specs.Writer.{Wrote}
use Rattle.book.proofs.Books.{written_small}
use Rattle.basics.specs.Bytes.{four_bytes}
use Rattle.basics.proofs.Bytes.{four_be}
use Rattle.chainplater.proofs.answers.written.Goals as goal

pub overflow_cast-size : goal.overflow_cast-size
overflow_cast-size c =
    let a = c.args in
    let small = written_small (contents_in a.contents.now) (length a.bodies.now) (length a.out.now) in
    record { fits = omega (arith, ap (λ (w : Wrote). w.bytes) c.in_ok-size.ensures.answers.numbers) }

pub returns-clause-bytes : goal.returns-clause-bytes
returns-clause-bytes c =
    let a = c.args in
    let small = written_small (contents_in a.contents.now) (length a.bodies.now) (length a.out.now) in
    let is = ap (λ (w : Wrote). w.bytes) c.in_ok-size.ensures.answers.numbers in
    let fits : c.in_ok-size.size < 2 ^ 32 = omega arith in
    c.to_be_bytes.ensures ∙ four_be c.in_ok-size.size fits ∙ ap four_bytes is
