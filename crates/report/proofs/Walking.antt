-- Captures one after the other: what is still to be put completes the table.
use mathlib.Core.Path.{◌≡◌, refl, sym, ap, subst, ◌∙◌}
use mathlib.Core.List.{List, [], ◌++◌, append_assoc, append-nil}
use Prim.Native.Nat.{ℕ, ◌+◌, ◌-◌, ◌≤◌, ◌<◌}
use native.Mathlib.Numerals.{add-one}
use native.Mathlib.Omega.{arith}
use lib.ListN.{length, get_or, take, drop, replicate, drop_of_length-le, get_or-append}
use lib.Seq.{drop-cons, take_at}
use Rattle.book.specs.Format.{count_in, entries_of, places, no_entry}
use Rattle.book.specs.declared.Contents.{Contents}
use Rattle.book.specs.declared.Entry.{Entry}
use Rattle.book.specs.Reader.{Reading}
use Rattle.book.proofs.Entries.{length_entries, accepted}
use Rattle.book.proofs.Ordered.{book_exact}
use Rattle.page.specs.declared.Page.{Page}
use Rattle.report.specs.Put.{Room, Put, LineRoom, PutLine, Opened, PutTable}
use Rattle.report.specs.Table.{Answered, header, line_text, lines_text, IsVerdict}
use Rattle.report.proofs.Puts.{room_as, put_as, behind, room_first, room_behind, from_start}
use Rattle.report.proofs.Tables.{table_of, read_table, read_short}
use Rattle.report.proofs.Verdicts.{verdicts, judged_some, judged_one}

-- the contents that were read are the book's entries, and places behind them
module _ {page : Page} {book : List ℕ} {contents : Contents} (opened : Opened page book contents) where
  contents_are : contents ≡ record { count = count_in book; entries = places (entries_of book) }
  contents_are = opened.read ∙ ap (λ (r : Reading). r.contents) (accepted book opened.unrefused)

  pub count_is : contents.count ≡ length (entries_of book)
  count_is = ap (λ (c : Contents). c.count) contents_are ∙ sym (length_entries (count_in book) (drop 2 book))

  pub few : contents.count ≤ 64
  few = rw contents_are ((book_exact book).0 opened.unrefused).few

  pub entry_is : (i : ℕ) → i < length (entries_of book) → get_or contents.entries i no_entry ≡ get_or (entries_of book) i no_entry
  entry_is i h =
      ap (λ (c : Contents). get_or c.entries i no_entry) contents_are
      ∙ get_or-append (entries_of book) (replicate (64 - length (entries_of book)) no_entry) no_entry i h

  pub entries_are : take contents.count contents.entries ≡ entries_of book
  entries_are =
      ap (λ (c : Contents). take c.count c.entries) contents_are
      ∙ take_at (entries_of book) (replicate (64 - length (entries_of book)) no_entry) (count_in book)
      (length_entries (count_in book) (drop 2 book))

  pub table_room : Room page (table_of book)
  table_room =
      let short = read_short book opened.unrefused in record { fits = omega (arith, opened.large, opened.start) }

module _ (book : List ℕ) where
  -- the lines of the captures from number i on
  abbrev pub rest : ℕ → List ℕ
  rest i = let entries = drop i (entries_of book) in lines_text i entries (verdicts book entries)

  -- what is put, and what is left, is the table
  pub record Walk (start page : Page) (i : ℕ) : Type 0 where
    pub done : List ℕ
    pub whole : done ++ rest i ≡ table_of book
    pub put : Put start done page
    pub room : Room page (rest i)

  pub walk_start : {start page : Page} → Room start (table_of book) → Put start header page → Walk start page 0
  walk_start room head = record { done = header; whole = refl; put = head; room = room_behind room head }

  module _ {start page : Page} {i : ℕ} (walk : Walk start page i) where
    module _ (h : i < length (entries_of book)) where
      abbrev entry : Entry
      entry = get_or (entries_of book) i no_entry

      rest_next : (v : Answered) → IsVerdict book entry v → line_text i entry v ++ rest (i + 1) ≡ rest i
      rest_next v right =
          sym
          (ap (λ (es : List Entry). lines_text i es (verdicts book es)) (drop-cons (entries_of book) i no_entry h)
          ∙ rw (add-one i, judged_one book entry v (judged_some book entry).0 right (judged_some book entry).1))

      -- `e` is the entry as the code has it
      pub walk_room : (e : Entry) → e ≡ entry → LineRoom page book i e
      walk_room e same =
          subst (LineRoom page book i) (sym same) (λ v right. room_first (rest (i + 1)) (room_as (rest_next v right) walk.room))

      pub walk_next : {after : Page} (e : Entry) → e ≡ entry → PutLine page book i e after → Walk start after (i + 1)
      walk_next {after} e same line = go (subst (λ (e : Entry). PutLine page book i e after) same line)
        where
          go : PutLine page book i entry after → Walk start after (i + 1)
          go line =
              let text = line_text i entry line.verdict in
              let next = rest_next line.verdict line.right in
              record {
                done = walk.done ++ text;
                whole =
                    append_assoc walk.done text (rest (i + 1)) ∙ ap (λ (t : List ℕ). walk.done ++ t) next ∙ walk.whole;
                put = behind walk.put line.put;
                room = room_behind (room_as next walk.room) line.put;
              }

    pub walk_done : length (entries_of book) ≤ i → Put start (table_of book) page
    walk_done end =
        let nothing : rest i ≡ [] =
        ap (λ (es : List Entry). lines_text i es (verdicts book es)) (drop_of_length-le (entries_of book) {i = i} end) in
        put_as (sym (append-nil walk.done) ∙ ap (λ (t : List ℕ). walk.done ++ t) (sym nothing) ∙ walk.whole) walk.put

-- the header and the lines are the table
pub lines_printed : {page after : Page} {book : List ℕ} {contents : Contents} → Opened page book contents
    → Put page (table_of book) after → PutTable page book after
lines_printed {book = book} opened lines =
    let told = from_start opened.start (table_room opened) lines in
    record {
      printed = record { text = table_of book; table = read_table book opened.unrefused; page = told.0; long = told.1 };
      same = lines.same;
    }
