-- The captures of a book that was read: from their settings a fresh record is made, the judge that shows the causes refuses none of
-- them, and neither is the list of their changes refused.
use mathlib.Core.Path.{◌≡◌}
use mathlib.Core.List.{List}
use Prim.Native.Nat.{ℕ, ◌≤◌, ◌<◌}
use native.Mathlib.Omega.{arith}
use lib.ListN.{length, get_or}
use Rattle.basics.specs.First.{first_of}
use Rattle.basics.proofs.Fitting.{fit_settings}
use Rattle.basics.proofs.Rows.{rows_long}
use Rattle.controller.specs.Settings.{fresh, settings_faults, making}
use Rattle.explain.specs.Causes.{Causes}
use Rattle.explain.specs.Verdict.{Judging}
use Rattle.explain.proofs.Tables.{judged}
use Rattle.switches.specs.Extend.{extending}
use Rattle.switches.proofs.Grown.{afresh_all}
use Rattle.book.specs.Format.{hold_in, body_of, no_entry}
use Rattle.book.specs.Reader.{reading}
use Rattle.book.specs.Writer.{counted}
use Rattle.book.specs.declared.Entry.{Entry}
use Rattle.report.proofs.Captures.{both_fit, capture_fits, capture_whole, capture_judged}

module _ (book : List ℕ) (none : (reading book).refusal ≡ 0) (i : ℕ) (h : i < length (counted (reading book).contents)) where
  abbrev entry : Entry
  entry = get_or (counted (reading book).contents) i no_entry

  unrefused : first_of (settings_faults entry.n entry.mask) ≡ 0
  unrefused =
      let whole = capture_whole book none i h in
      let fits = both_fit book entry (capture_fits book none i h) whole.0 whole.1 in
      fit_settings 1 2 entry.n entry.mask fits.0 fits.1

  pub capture_fresh :
      making entry.n (hold_in entry) entry.mask entry.w
      ≡ record { refusal = 0; controller = fresh entry.n (hold_in entry) entry.mask entry.w }
  unfolding making
  capture_fresh = rw unrefused

  pub capture_caused : (old old2 new new2 : List ℕ) → 16384 ≤ length old → 16384 ≤ length old2 → (j : Judging)
      → Causes entry.n (hold_in entry) entry.mask entry.w (body_of book entry) old old2 j new new2 → j.refusal ≡ 0
  capture_caused old old2 new new2 room room2 j causes =
      let long = rows_long (body_of book entry) in
      let small = (capture_whole book none i h).1 in
      capture_judged book none i h j (judged causes (omega arith) (omega arith))

  pub capture_listed : (table : List ℕ) → 16384 ≤ length table → (extending (body_of book entry) 0 0 table).refusal ≡ 0
  capture_listed table =
      let whole = capture_whole book none i h in
      afresh_all (body_of book entry) table (omega (arith, whole.0)) whole.1
