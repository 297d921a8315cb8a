-- A capture of a book: its settings fit and its body is whole steps, no more of them than the judge takes. So the judge does not
-- refuse it, and names no step that it does not have.
use mathlib.Core.Path.{◌≡◌, ap, ◌∙◌}
use mathlib.Core.Bool.{true}
use mathlib.Core.List.{List}
use mathlib.Core.Logic.{inl, inr, ⊎_elim}
use Prim.Native.Nat.{ℕ, ◌*◌, ◌%◌, ◌≤◌, ◌<◌}
use native.Mathlib.Omega.{arith}
use lib.Dec.{eqb}
use lib.ListN.{length, get_or}
use borrow.Author.Tests.{eqb-true, eq-eqb, le-ltb}
use Rattle.basics.specs.Capture.{rows_of}
use Rattle.basics.specs.First.{first_of}
use Rattle.basics.specs.Settings.{sections_fit, mask_fits}
use Rattle.basics.proofs.Rows.{rows_long}
use Rattle.basics.proofs.Table.{at_entry}
use Rattle.book.specs.Format.{hold_in, settings_fit, most, body_of, no_entry}
use Rattle.book.specs.Reader.{reading}
use Rattle.book.specs.Writer.{counted}
use Rattle.book.specs.declared.Entry.{Entry}
use Rattle.book.proofs.Refusals.{fit_each}
use Rattle.book.proofs.Trips.{read_fit, read_whole}
use Rattle.explain.specs.Verdict.{Judging, told, judge_faults, Found, Right}
use Rattle.explain.specs.declared.Verdict.TheVariants as verdict
use Rattle.explain.proofs.Exact.{found, first_within}
use Rattle.std.proofs.Common.{Ok, Err}
use Rattle.report.specs.Table.{Answered, IsVerdict}

-- all steps are explained, or one of them is the first that is not
abbrev pub Within : ℕ → Answered → Type 0
Within steps (Ok (verdict.Explained k)) = k ≡ steps
Within steps (Ok (verdict.Unexplained i)) = i < steps
Within steps (Err k) = ⊥

module _ (book : List ℕ) where
  module _ (e : Entry) (fits : settings_fit e ≡ true) (long : length (body_of book e) ≡ 4 * e.steps)
      (small : length (body_of book e) ≤ most) where
    pub both_fit : (sections_fit e.n ≡ true) × (mask_fits e.n e.mask ≡ true)
    both_fit = let each = fit_each e fits in (each.1, each.2)

    pub unrefused : first_of (judge_faults e.n e.mask (length (body_of book e))) ≡ 0
    unrefused =
        rw (
          both_fit.0,
          both_fit.1,
          eq-eqb (length (body_of book e) % 4) 0 (omega arith),
          le-ltb most (length (body_of book e)) small,
        )

    rows_all : length (rows_of (body_of book e)) ≡ e.steps
    rows_all = let rows = rows_long (body_of book e) in omega arith

    pub judged_within : (v : Answered) → IsVerdict book e v → Within e.steps v
    judged_within v right =
        go v (found e.n (hold_in e) e.mask e.w (body_of book e) (told v) right unrefused)
      where
        at_same : {j k : Judging} → j ≡ k → j.at ≡ k.at
        at_same same = ap (λ (j : Judging). j.at) same

        verdict_same : {j k : Judging} → j ≡ k → j.verdict ≡ k.verdict
        verdict_same same = ap (λ (j : Judging). j.verdict) same

        go : (v : Answered) → Found e.n (hold_in e) e.mask e.w (rows_of (body_of book e)) (told v) → Within e.steps v
        go (Ok (verdict.Explained k)) (inl (same, some)) = at_same same ∙ rows_all
        go (Ok (verdict.Explained k)) (inr (i, same, some, none)) = absurd (omega (arith, verdict_same same))
        go (Ok (verdict.Unexplained k)) (inl (same, some)) = absurd (omega (arith, verdict_same same))
        go (Ok (verdict.Unexplained k)) (inr (i, same, some, none)) =
            omega (arith, at_same same, rows_all, first_within e.n (hold_in e) e.mask e.w (rows_of (body_of book e)) i some none)
        go (Err k) (inl (same, some)) = absurd (omega (arith, verdict_same same))
        go (Err k) (inr (i, same, some, none)) = absurd (omega (arith, verdict_same same))

-- the captures of a book that was read, by their number
module _ (book : List ℕ) (none : (reading book).refusal ≡ 0) (i : ℕ) (h : i < length (counted (reading book).contents)) where
  abbrev entry : Entry
  entry = get_or (counted (reading book).contents) i no_entry

  pub capture_fits : settings_fit entry ≡ true
  capture_fits = at_entry settings_fit (counted (reading book).contents) no_entry (read_fit book none) i h

  pub capture_whole : (length (body_of book entry) ≡ 4 * entry.steps) × (length (body_of book entry) ≤ most)
  capture_whole =
      let test = read_whole book none in (
        eqb-true (length (body_of book entry)) (4 * entry.steps)
            (at_entry (λ e. eqb (length (body_of book e)) (4 * e.steps)) (counted (reading book).contents) no_entry test.0 i h),
        test.1 entry,
      )

  pub capture_judged : (j : Judging) → Right entry.n (hold_in entry) entry.mask entry.w (body_of book entry) j → j.refusal ≡ 0
  capture_judged j right =
      ⊎_elim (λ told. ap (λ (a : Judging). a.refusal) told.0) (λ told. ap (λ (a : Judging). a.refusal) told.1)
      (found entry.n (hold_in entry) entry.mask entry.w (body_of book entry) j right
      (unrefused book entry capture_fits capture_whole.0 capture_whole.1))
