-- The table of a book: there is one, it is the only one, and it has room on the page.
use mathlib.Core.Path.{◌≡◌, refl, sym, ap, ◌∙◌}
use mathlib.Core.Bool.{Bool, true, false, and-eq-true_iff}
use mathlib.Core.List.{List, [], ◌∷◌, ◌++◌}
use mathlib.Core.Logic.{◌↔◌}
use Prim.Native.Nat.{ℕ, ◌*◌, ◌≤◌, ◌<◌}
use native.Mathlib.Omega.{arith}
use lib.Dec.{eqb}
use lib.ListN.{length, take, drop, length-append, length-drop, length-take}
use lib.Seq.{take_at}
use borrow.Author.Tests.{eqb-true, eqb-false, ne_eqb, lt-ltb}
use Rattle.basics.specs.Table.{every}
use Rattle.basics.proofs.Fitting.{fit_bounds}
use Rattle.book.specs.Format.{count_in, entries_of, settings_fit, most, body_of, first_body}
use Rattle.book.specs.Reader.{refusal}
use Rattle.book.specs.declared.Entry.{Entry}
use Rattle.book.proofs.Entries.{length_entries}
use Rattle.book.proofs.Ordered.{order_ends, whole_bodies, book_exact}
use Rattle.page.specs.Page.{PutsEach}
use Rattle.page.specs.Text.{last}
use Rattle.page.specs.declared.Page.{Page}
use Rattle.report.specs.Put.{Room}
use Rattle.report.specs.Table.{Answered, chars, header, ending, lines_text, AreVerdicts, IsTable, Printed}
use Rattle.report.proofs.Captures.{both_fit, judged_within}
use Rattle.report.proofs.Longest.{AllFit, captures_short, refused_short}
use Rattle.report.proofs.Puts.{ending_put, from_start}
use Rattle.report.proofs.Verdicts.{verdicts, all_some, all_one}

module _ (book : List ℕ) where
  -- what is printed of a book that is read
  abbrev pub table_of : List ℕ
  table_of = header ++ lines_text 0 (entries_of book) (verdicts book (entries_of book))

  pub read_table : refusal book ≡ 0 → IsTable book table_of
  unfolding IsTable
  read_table none = rw none (verdicts book (entries_of book), all_some book (entries_of book), refl)

  pub refused_table : (refusal book ≡ 0 → ⊥) → IsTable book (ending (chars "refused ") (refusal book))
  unfolding IsTable
  refused_table some = rw (ne_eqb (refusal book) 0 some) refl

  pub table_read : (text : List ℕ) → IsTable book text → refusal book ≡ 0 → text ≡ table_of
  unfolding IsTable
  table_read text table none =
      let told = rw none at table in
      told.2 ∙ ap (λ (vs : List Answered). header ++ lines_text 0 (entries_of book) vs) (all_one book (entries_of book) told.0 told.1)

  pub table_refused : (text : List ℕ) → IsTable book text → (refusal book ≡ 0 → ⊥) → text ≡ ending (chars "refused ") (refusal book)
  unfolding IsTable
  table_refused text table some = rw (ne_eqb (refusal book) 0 some) at table

  pub table_some : (text : List ℕ) × IsTable book text
  table_some = go (eqb (refusal book) 0) refl
    where
      go : (t : Bool) → eqb (refusal book) 0 ≡ t → (text : List ℕ) × IsTable book text
      go true e = (table_of, read_table (eqb-true (refusal book) 0 e))
      go false e = (ending (chars "refused ") (refusal book), refused_table (eqb-false (refusal book) 0 e))

  pub table_one : (text text' : List ℕ) → IsTable book text → IsTable book text' → text ≡ text'
  table_one text text' p q = go (eqb (refusal book) 0) refl
    where
      go : (t : Bool) → eqb (refusal book) 0 ≡ t → text ≡ text'
      go true e =
          let none = eqb-true (refusal book) 0 e in table_read text p none ∙ sym (table_read text' q none)
      go false e =
          let some = eqb-false (refusal book) 0 e in table_refused text p some ∙ sym (table_refused text' q some)

  -- the test that `whole_bodies` speaks of
  abbrev whole : Entry → Bool
  whole e = eqb (length (body_of book e)) (4 * e.steps)

  body_short : (e : Entry) → length book ≤ most → length (body_of book e) ≤ most
  body_short e small = simp (length-take, length-drop) (omega arith)

  fit_all : (entries : List Entry) (vs : List Answered) → length book ≤ most → every settings_fit entries ≡ true
      → every whole entries ≡ true → AreVerdicts book entries vs
      → AllFit entries vs
  fit_all [] [] small fits all_whole all = tt
  fit_all (e ∷ entries) (v ∷ vs) small fits all_whole all =
      let fit = (and-eq-true_iff (settings_fit e) (every settings_fit entries)).0 fits in
      let long = (and-eq-true_iff (whole e) (every whole entries)).0 all_whole in
      let bytes = eqb-true (length (body_of book e)) (4 * e.steps) long.0 in
      let short = body_short e small in (
        (
          (fit_bounds e.n (both_fit book e fit.0 bytes short).0).1,
          omega arith,
          judged_within book e fit.0 bytes short v all.0,
        ),
        fit_all entries vs small fit.1 long.1 all.1,
      )
  fit_all [] (v ∷ vs) small fits all_whole all = absurd all
  fit_all (e ∷ entries) [] small fits all_whole all = absurd all

  pub read_short : refusal book ≡ 0 → length table_of ≤ 1708
  read_short none =
      let b = (book_exact book).0 none in
      let ends = order_ends (length book) (first_body (count_in book)) (entries_of book) b.order in
      let long = whole_bodies book (first_body (count_in book)) (entries_of book) b.order in
      let count = length_entries (count_in book) (drop 2 book) in
      captures_short (entries_of book) (verdicts book (entries_of book))
      (fit_all (entries_of book) (verdicts book (entries_of book)) b.small b.settings long (all_some book (entries_of book)))
      (omega (arith, b.few)) (omega (arith, b.small))

  pub table_short : (text : List ℕ) → IsTable book text → length text ≤ 1708
  table_short text table = go (eqb (refusal book) 0) refl
    where
      go : (t : Bool) → eqb (refusal book) 0 ≡ t → length text ≤ 1708
      go true e =
          let none = eqb-true (refusal book) 0 e in
          rw (table_read text table none) (read_short none)
      go false e = rw (table_refused text table (eqb-false (refusal book) 0 e)) (refused_short (refusal book))

-- the promise, told of the one table
pub printed_is : (book text before after : List ℕ) (answer : ℕ) → IsTable book text
    → Printed book before after answer ↔ ((after ≡ text ++ drop (length text) before) × (answer ≡ length text))
printed_is book text before after answer table = (
  λ p.
      let same = table_one book p.text text p.table table in
      (p.page ∙ ap (λ (t : List ℕ). t ++ drop (length t) before) same, p.long ∙ ap length same),
  λ told. record { text = text; table = table; page = told.0; long = told.1 },
)

-- so two pages, and two answers, that it allows are equal
pub printed_one : {book before after after' : List ℕ} {answer answer' : ℕ} → Printed book before after answer
    → Printed book before after' answer' → (after ≡ after') × (answer ≡ answer')
printed_one {book} {before} {after' = after'} {answer' = answer'} p q =
    let told = (printed_is book p.text before after' answer' p.table).0 q in
    (p.page ∙ sym told.0, p.long ∙ sym told.1)

-- the line of a refused book has room, and is its table
pub refused_room : (page : Page) (number : ℕ) → 2048 ≤ length page.bytes.now → page.at ≡ 0
    → Room page (ending (chars "refused ") number)
refused_room page number large start = let short = refused_short number in record { fits = omega (arith, start) }

pub refused_printed : {page after : Page} {book : List ℕ} {number shown : ℕ} → 2048 ≤ length page.bytes.now → page.at ≡ 0
    → number ≡ refusal book → (number ≡ 0 → ⊥) → shown ≡ number → PutsEach page (last (chars "refused ") shown) after
    → Printed book page.bytes.now after.bytes.now after.at
refused_printed {page} {after} {book} {number} large start same some told put =
    let text = ending (chars "refused ") number in
    let room = refused_room page number large start in
    let printed = from_start start room (ending_put (chars "refused ") refl told room put) in
    record {
      text = text;
      table = rw same (refused_table book (λ none. some (same ∙ none)));
      page = printed.0;
      long = printed.1;
    }

-- the first check of all
pub large_printed : (book : List ℕ) → most < length book → IsTable book (ending (chars "refused ") 20)
unfolding IsTable refusal
large_printed book large = rw (lt-ltb most (length book) large) refl

-- so what is handed on to be written is a part of the page, and is the text
module _ {book before after : List ℕ} {answer : ℕ} (printed : Printed book before after answer) where
  pub printed_within : answer ≤ length after
  printed_within =
      let both = length-append printed.text (drop (length printed.text) before) in
      omega (arith, ap length printed.page, printed.long)

  printed_text : take answer after ≡ printed.text
  printed_text =
      rw (printed.page, printed.long)
      (take_at printed.text (drop (length printed.text) before) (length printed.text) refl)

  pub printed_long : answer ≡ length (take answer after)
  printed_long = rw printed_text printed.long
