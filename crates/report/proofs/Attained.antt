-- A book with the longest table: 64 captures of 14 sections, ten of 1,001 steps and the others of 101, each explained but for its
-- last step.
use mathlib.Core.Path.{◌≡◌, refl, sym, ap, subst, ◌∙◌}
use mathlib.Core.Bool.{true, false, and-eq-true_iff}
use mathlib.Core.List.{List, [], ◌∷◌, ◌++◌, append_assoc}
use Prim.Native.Nat.{ℕ, zero, suc, ◌+◌, ◌*◌, ◌≤◌}
use native.Mathlib.Nat.{add-zero, zero-add, add-suc, suc-add}
use native.Mathlib.Omega.{arith}
use lib.Dec.{leb, ltb}
use lib.ListN.{length, take, drop, replicate, length-append}
use lib.Seq.{take_at, drop_at}
use borrow.Author.Tests.{leb-true}
use Rattle.basics.specs.Capture.{rows_of}
use Rattle.basics.specs.Table.{every}
use Rattle.basics.proofs.Fitting.{fit_size}
use Rattle.pair.specs.Request.{listed, carries, rank_in, rank_of}
use Rattle.pair.specs.Marks.{finding, usable}
use Rattle.controller.specs.Settings.{fresh}
use Rattle.book.specs.Format.{entry_bytes, contents_bytes, entries_of, first_body, body_of, placed_at, placed, book_of}
use Rattle.book.specs.Reader.{refusal}
use Rattle.book.specs.Writer.{steps_of}
use Rattle.book.specs.declared.Entry.{Entry}
use Rattle.book.proofs.Laid.{length_first}
use Rattle.book.proofs.Ordered.{book_exact}
use Rattle.book.proofs.Trips.{made_entries, made_book}
use Rattle.explain.specs.Cause.{arises, unseen, answers}
use Rattle.explain.specs.Scan.{first, scan_from}
use Rattle.explain.specs.Trace.{start, live, next, verdict_of, scanned}
use Rattle.explain.specs.declared.Verdict.TheVariants as verdict
use Rattle.page.specs.Digits.{decimal}
use Rattle.std.proofs.Common.{Ok}
use Rattle.report.specs.Table.{Answered, header, line_text, lines_text, IsVerdict, AreVerdicts, IsTable}
use Rattle.report.proofs.Verdicts.{scanned_judged}

-- k idle steps, and one in which no controller sends the pair: its bit 5 is 0
abbrev body : ℕ → List ℕ
body zero = 0x00 ∷ 0x08 ∷ 0x00 ∷ 0x00 ∷ []
body (suc k) = 0x00 ∷ 0x08 ∷ 0x00 ∷ 0x08 ∷ body k

length_body : (k : ℕ) → length (body k) ≡ 4 * (k + 1)
length_body zero = refl
length_body (suc k) = let rest = length_body k in omega arith

scan_body : (k i : ℕ) → scan_from next live i (start (fresh 14 false 0 0)) (rows_of (body k)) ≡ first (i + k)
unfolding next arises unseen answers finding usable carries listed rank_of rank_in
scan_body zero i = ap first (sym (add-zero i))
scan_body (suc k) i = scan_body k (suc i) ∙ ap first (suc-add i k ∙ sym (add-suc i k))

-- captures by the first step that is not explained
abbrev entry : ℕ → Entry
entry k = record { n = 14; spare = 0; mask = 0; w = 0; offset = 0; steps = k + 1 }

abbrev entries : List ℕ → List Entry
entries [] = []
entries (k ∷ ks) = entry k ∷ entries ks

abbrev bodies : List ℕ → List ℕ
bodies [] = []
bodies (k ∷ ks) = body k ++ bodies ks

abbrev firsts : List ℕ → List Answered
firsts [] = []
firsts (k ∷ ks) = Ok (verdict.Unexplained k) ∷ firsts ks

length_bodies : (ks : List ℕ) → length (bodies ks) ≡ 4 * steps_of (entries ks)
unfolding steps_of
length_bodies [] = refl
length_bodies (k ∷ ks) =
    let rest = length_bodies ks in
    let here = length_body k in
    let both = length-append (body k) (bodies ks) in
    omega arith

-- each of them behind what stands before its body
module _ (book : List ℕ) where
  body_here : (k : ℕ) (ks before : List ℕ) → book ≡ before ++ bodies (k ∷ ks)
      → body_of book (placed_at (length before) (entry k)) ≡ body k
  body_here k ks before same =
      ap (λ (bytes : List ℕ). take (4 * (k + 1)) (drop (length before) bytes)) same
      ∙ ap (take (4 * (k + 1))) (drop_at before (body k ++ bodies ks) (length before) refl)
      ∙ take_at (body k) (bodies ks) (4 * (k + 1)) (length_body k)

  body_judged : (k at : ℕ) → body_of book (placed_at at (entry k)) ≡ body k → k ≤ 1000
      → IsVerdict book (placed_at at (entry k)) (Ok (verdict.Unexplained k))
  body_judged k at here small =
      let long = ap length here ∙ length_body k in
      scanned_judged book (placed_at at (entry k)) (Ok (verdict.Unexplained k)) refl refl
      (fit_size (length (body_of book (placed_at at (entry k)))) (omega arith) (omega arith))
      (ap (scanned (fresh 14 false 0 0)) here ∙ ap verdict_of (scan_body k 0 ∙ ap first (zero-add k)))

  all_judged : (ks before : List ℕ) → book ≡ before ++ bodies ks → every (λ k. leb k 1000) ks ≡ true
      → AreVerdicts book (placed (length before) (entries ks)) (firsts ks)
  unfolding placed
  all_judged [] before same small = tt
  all_judged (k ∷ ks) before same small =
      let both = (and-eq-true_iff (leb k 1000) (every (λ k. leb k 1000) ks)).0 small in
      let next-before = before ++ body k in
      let long : length next-before ≡ length before + 4 * (k + 1) = omega (arith, length-append before (body k), length_body k) in (
        body_judged k (length before) (body_here k ks before same) (leb-true k 1000 both.0),
        subst (λ (at : ℕ). AreVerdicts book (placed at (entries ks)) (firsts ks)) long
            (all_judged ks next-before (same ∙ sym (append_assoc before (body k) (bodies ks))) both.1),
      )

-- the ten come last, but might stand anywhere
abbrev ks : List ℕ
ks = replicate 54 100 ++ replicate 10 1000

abbrev pub longest_book : List ℕ
longest_book = book_of (entries ks) (bodies ks)

is_book : refusal longest_book ≡ 0
unfolding steps_of
is_book =
    let long = length_bodies ks in
    (book_exact longest_book).1 (made_book (entries ks) (bodies ks) (omega arith) refl long (omega arith))

judged_all : AreVerdicts longest_book (entries_of longest_book) (firsts ks)
unfolding book_of
judged_all =
    let front : List ℕ = 1 ∷ 64 ∷ contents_bytes (placed (first_body 64) (entries ks)) in
    let long : length front ≡ first_body 64 = omega (arith, length_first (first_body 64) (entries ks)) in
    subst (λ (es : List Entry). AreVerdicts longest_book es (firsts ks))
    (ap (λ (at : ℕ). placed at (entries ks)) long ∙ sym (made_entries (entries ks) (bodies ks)))
    (all_judged longest_book ks front refl refl)

-- each line has its number, `14`, and 101 or 1001 steps with 100 or 1000 as the first
pub longest_table : List ℕ
longest_table = header ++ lines_text 0 (placed (first_body 64) (entries ks)) (firsts ks)

pub longest_table_lem : IsTable longest_book longest_table
unfolding IsTable longest_table
longest_table_lem =
    rw is_book (firsts ks, judged_all, ap (λ (es : List Entry). header ++ lines_text 0 es (firsts ks)) (sym (made_entries (entries ks) (bodies ks))))

pub longest_length : length longest_table ≡ 1708
unfolding longest_table line_text decimal placed
longest_length = refl

-- and the book's numbers are bytes
pub longest_bytes : every (λ b. ltb b 256) longest_book ≡ true
unfolding book_of placed contents_bytes entry_bytes
longest_bytes = refl
