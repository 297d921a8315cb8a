-- The table of the paper's book, and that of a book without captures, computed.
use mathlib.Core.Path.{◌≡◌, refl}
use mathlib.Core.List.{[], ◌∷◌}
use lib.ListN.{get_or}
use Rattle.std.proofs.Common.{Ok}
use Rattle.basics.specs.Bytes.{two_at, four_at}
use Rattle.pair.specs.Request.{listed, carries, rank_in, rank_of}
use Rattle.pair.specs.Marks.{finding, usable}
use Rattle.book.specs.Format.{entry_in, entries_in, entries_of, no_entry}
use Rattle.book.specs.Reader.{body_faults, refusal}
use Rattle.explain.specs.Cause.{arises, unseen, answers}
use Rattle.explain.specs.Trace.{next}
use Rattle.explain.specs.declared.Verdict.TheVariants as verdict
use Rattle.page.specs.Digits.{decimal}
use Rattle.report.specs.Example.{paper_book, paper_table}
use Rattle.report.specs.Table.{header, line_text, AreVerdicts, IsTable}
use Rattle.report.proofs.Verdicts.{scanned_judged}

paper_read : refusal paper_book ≡ 0
unfolding refusal body_faults entries_in entry_in two_at four_at
paper_read = refl

paper_judged : AreVerdicts paper_book (entries_of paper_book) (Ok (verdict.Explained 3) ∷ Ok (verdict.Unexplained 1) ∷ [])
unfolding entries_in entry_in two_at four_at next arises unseen answers finding usable carries listed rank_of rank_in
paper_judged = (
  scanned_judged paper_book (get_or (entries_of paper_book) 0 no_entry) (Ok (verdict.Explained 3)) refl refl refl refl,
  (scanned_judged paper_book (get_or (entries_of paper_book) 1 no_entry) (Ok (verdict.Unexplained 1)) refl refl refl refl, tt),
)

pub paper_printed : IsTable paper_book paper_table
unfolding IsTable line_text decimal entries_in entry_in two_at four_at
paper_printed = rw paper_read (Ok (verdict.Explained 3) ∷ Ok (verdict.Unexplained 1) ∷ [], paper_judged, refl)

pub empty_printed : IsTable (1 ∷ 0 ∷ []) header
unfolding IsTable refusal body_faults entries_in
empty_printed = ([], tt, refl)
