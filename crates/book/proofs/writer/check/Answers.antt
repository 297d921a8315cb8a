-- behind 23 come the settings, and behind those 30, 20 and 29
use Rattle.std.proofs.Common.{arith, rules, refl, ap, ◌+◌, ◌≡◌, ◌∙◌, List}
use Rattle.std.proofs.lemmas.Result.{err_from_is_err_and}
use borrow.Author.Tests.{ne_eqb, eq-eqb, lt-ltb, le-ltb}
use Rattle.basics.proofs.Refusals.{number_some}
use Rattle.basics.specs.First.{first_of}
use Rattle.basics.specs.declared.refusal.Refusal.TheVariants.{BookLength, BookCount, OutputShort, BodiesLength}
use Rattle.book.specs.Format.{contents_in}
use Rattle.book.specs.Writer.{steps_of, entries_faults}
use Rattle.book.specs.declared.Entry.{Entry}
use Rattle.book.proofs.Refusals.{count_first, settings_first, checks_behind}
use Rattle.book.proofs.Counted.{length_counted}
use Rattle.book.proofs.Books.{written_answer, refused_answer}
use Rattle.book.proofs.writer.check.Goals as goal

asked : {es fs : List Entry} → es ≡ fs → first_of (entries_faults es) ≡ first_of (entries_faults fs)
asked same = ap (λ (es : List Entry). first_of (entries_faults es)) same

pub returns-then-count-gt64 : goal.returns-then-count-gt64
unfolding contents_in
returns-then-count-gt64 c =
    let a = c.args in
    let contents = contents_in a.contents.now in
    refused_answer contents a.bodies a.room BookCount (count_first contents a.bodies a.room c.if-count-gt64.true)

pub counted-requires : goal.counted-requires
unfolding contents_in
counted-requires c = search rules

pub returns-in_err-check_entries : goal.returns-in_err-check_entries
unfolding contents_in
returns-in_err-check_entries c =
    let a = c.args in
    let contents = contents_in a.contents.now in
    let e = c.in_err-check_entries.field-0.0 in
    let p = err_from_is_err_and c.from_residual.result c.from_residual.ensures.1 in
    rw (p.1, p.2)
    (refused_answer contents a.bodies a.room e
    (settings_first contents a.bodies a.room c.if-count-gt64.false _
    (c.in_err-check_entries.ensures ∙ asked c.counted.ensures) (number_some e)))

pub counted-requires-2 : goal.counted-requires-2
unfolding contents_in
counted-requires-2 c = search rules

pub steps_in-requires : goal.steps_in-requires
unfolding contents_in
steps_in-requires c =
    let contents = contents_in c.args.contents.now in
    let few = c.if-count-gt64.false in
    let size = length_counted contents.count contents.entries in
    rw c.counted-2.ensures (omega arith)

pub returns-then-bodies-steps_in : goal.returns-then-bodies-steps_in
unfolding contents_in
returns-then-bodies-steps_in c =
    let a = c.args in
    let contents = contents_in a.contents.now in
    let none = c.in_ok-check_entries.ensures ∙ asked c.counted.ensures in
    let summed = c.steps_in.ensures.0 ∙ ap steps_of c.counted-2.ensures in
    let behind = checks_behind contents a.bodies a.room c.if-count-gt64.false none _ _ summed refl in
    refused_answer contents a.bodies a.room BodiesLength ((simp (ne_eqb _ _ c.if-bodies-steps_in.true)) ∙ behind)

pub returns-then-size-gt-MOST : goal.returns-then-size-gt-MOST
unfolding contents_in
returns-then-size-gt-MOST c =
    let a = c.args in
    let contents = contents_in a.contents.now in
    let none = c.in_ok-check_entries.ensures ∙ asked c.counted.ensures in
    let summed = c.steps_in.ensures.0 ∙ ap steps_of c.counted-2.ensures in
    let behind = checks_behind contents a.bodies a.room c.if-count-gt64.false none _ _ summed c.first_body.ensures in
    refused_answer contents a.bodies a.room BookLength
    ((simp (eq-eqb _ _ c.if-bodies-steps_in.false, lt-ltb _ _ c.if-size-gt-MOST.true)) ∙ behind)

pub returns-then-room-size : goal.returns-then-room-size
unfolding contents_in
returns-then-room-size c =
    let a = c.args in
    let contents = contents_in a.contents.now in
    let none = c.in_ok-check_entries.ensures ∙ asked c.counted.ensures in
    let summed = c.steps_in.ensures.0 ∙ ap steps_of c.counted-2.ensures in
    let behind = checks_behind contents a.bodies a.room c.if-count-gt64.false none _ _ summed c.first_body.ensures in
    refused_answer contents a.bodies a.room OutputShort
    ((simp (
      eq-eqb _ _ c.if-bodies-steps_in.false,
      le-ltb _ _ c.if-size-gt-MOST.false,
      lt-ltb _ _ c.if-room-size.true,
    ))
    ∙ behind)

pub returns : goal.returns
unfolding contents_in
returns c =
    let a = c.args in
    let contents = contents_in a.contents.now in
    let none = c.in_ok-check_entries.ensures ∙ asked c.counted.ensures in
    let summed = c.steps_in.ensures.0 ∙ ap steps_of c.counted-2.ensures in
    let behind = checks_behind contents a.bodies a.room c.if-count-gt64.false none _ _ summed c.first_body.ensures in
    written_answer contents a.bodies a.room _
    ((simp (
      eq-eqb _ _ c.if-bodies-steps_in.false,
      le-ltb _ _ c.if-size-gt-MOST.false,
      le-ltb _ _ c.if-room-size.false,
    ))
    ∙ behind) (ap (λ n. n + a.bodies) c.first_body.ensures)
