-- Round trips: what is read and written again, and what is written and read again.
use mathlib.Core.Path.{◌≡◌, refl, sym, ap, subst, ◌∙◌}
use mathlib.Core.Bool.{Bool, true, false}
use mathlib.Core.List.{List, [], ◌∷◌, ◌++◌, append-nil}
use mathlib.Core.Logic.{◌↔◌}
use Prim.Native.Nat.{ℕ, zero, suc, ◌+◌, ◌*◌, ◌-◌, ◌≤◌, ◌<◌}
use native.Mathlib.Omega.{arith}
use lib.Dec.{eqb}
use lib.ListN.{length, get_or, take, drop, replicate, length-append, length-drop, length-replicate, take-append-drop}
use Rattle.std.proofs.lemmas.List.{drop-replicate, length-take-le}
use lib.Seq.{drop_at, drop-cons, drop-drop, take_at, take_all}
use borrow.Author.Tests.{eqb-true}
use Rattle.basics.proofs.Fields.{fields_fit_lem}
use Rattle.basics.specs.Table.{every}
use Rattle.basics.proofs.Table.{every_joined}
use Rattle.book.specs.Format.{count_in, layout, entry_fits, entry_in, entries_in, entries_of, settings_fit}
use Rattle.book.specs.Format.{contents_bytes, contents_in, bytes_of, first_body, InOrder, most, IsBook, body_of, joined, no_entry, places, placed, book_of}
use Rattle.book.specs.Reader.{refusal, reading}
use Rattle.book.specs.Writer.{first_places, counted, steps_of, size, write_refusal, writing, output}
use Rattle.book.specs.declared.Entry.{Entry}
use Rattle.book.specs.declared.Contents.{Contents}
use Rattle.book.proofs.Refusals.{writable, not_refused_lem}
use Rattle.book.proofs.Entries.{length_entries, accepted, not_accepted, head_accepted}
use Rattle.book.proofs.Counted.{length_counted}
use Rattle.book.proofs.Laid.{length_placed, length_contents, entries_back, small_rest, entries_again}
use Rattle.book.proofs.Laid.{contents_joined, contents_zeros}
use Rattle.book.proofs.Books.{length_book}
use Rattle.book.proofs.Ordered.{order_ends, joined_rest, whole_bodies, placed_order, order_placed, fit_placed}
use Rattle.book.proofs.Ordered.{book_exact}

-- the fields of entries that were read fit into their bytes, and so do zeros
entries_fit : (k : ℕ) (bytes : List ℕ) → ((i : ℕ) → get_or bytes i 0 < 256) → every entry_fits (entries_in k bytes) ≡ true
unfolding entries_in entry_in
entries_fit zero bytes small = refl
entries_fit (suc k) bytes small =
    rw (fields_fit_lem bytes small layout 0) (entries_fit k (drop 12 bytes) (small_rest 12 bytes small))

zeros_fit : (m : ℕ) → every entry_fits (replicate m no_entry) ≡ true
zeros_fit zero = refl
zeros_fit (suc m) = zeros_fit m

-- contents in bytes by themselves, written and read back, and read and written again
pub contents_back : (contents : Contents) → length contents.entries ≡ 64 → contents_in (bytes_of contents) ≡ contents
unfolding contents_in bytes_of
contents_back contents all =
    let whole : entries_in 64 (contents_bytes contents.entries) ≡ contents.entries =
    ap (λ (k : ℕ). entries_in k (contents_bytes contents.entries)) (sym all)
    ∙ ap (entries_in (length contents.entries)) (sym (append-nil (contents_bytes contents.entries)))
    ∙ entries_back contents.entries [] in
    ap (λ (entries : List Entry). record { count = contents.count; entries = entries }) whole

pub contents_again : (bytes : List ℕ) → length bytes ≡ 769 → ((i : ℕ) → get_or bytes i 0 < 256)
    → bytes_of (contents_in bytes) ≡ bytes
unfolding contents_in bytes_of
contents_again bytes long small =
    let rest = length-drop 1 bytes in
    ap (λ (l : List ℕ). get_or bytes 0 0 ∷ l)
    (entries_again 64 (drop 1 bytes) (small_rest 1 bytes small) (omega arith) ∙ take_all (12 * 64) (drop 1 bytes) (omega arith))
    ∙ sym (drop-cons bytes 0 0 (omega arith))

-- the entries in the first places are those that count
first_of : (entries after : List Entry) → first_places (length entries) (entries ++ after) ≡ entries
unfolding first_places
first_of [] after = refl
first_of (e ∷ rest) after = ap (λ (es : List Entry). e ∷ es) (first_of rest after)

places_first : (entries : List Entry) → first_places (length entries) (places entries) ≡ entries
places_first entries = first_of entries (replicate (64 - length entries) no_entry)

-- a book that was read
abbrev pub read_contents : List ℕ → Contents
read_contents book = record { count = count_in book; entries = places (entries_of book) }

pub read_refusal : (book : List ℕ) → (reading book).refusal ≡ refusal book
unfolding reading
read_refusal book = go (eqb (refusal book) 0) refl
  where
    go : (t : Bool) → eqb (refusal book) 0 ≡ t → (reading book).refusal ≡ refusal book
    go true h = rw h (sym (eqb-true (refusal book) 0 h))
    go false h = rw h

length_places : (entries : List Entry) → length entries ≤ 64 → length (places entries) ≡ 64
length_places entries h =
    let zeros = length-replicate (64 - length entries) no_entry in
    length-append entries (replicate (64 - length entries) no_entry) ∙ omega arith

module _ (book : List ℕ) (e : refusal book ≡ 0) where
  is_book : IsBook book
  is_book = (book_exact book).0 e

  count_entries : length (entries_of book) ≡ count_in book
  count_entries = length_entries (count_in book) (drop 2 book)

  pub read_counted : counted (read_contents book) ≡ entries_of book
  read_counted =
      ap (λ (k : ℕ). first_places k (places (entries_of book))) (sym count_entries) ∙ places_first (entries_of book)

  pub read_joined : joined book (entries_of book) ≡ drop (first_body (count_in book)) book
  read_joined = joined_rest book (first_body (count_in book)) (entries_of book) is_book.order

  module _ (small : (i : ℕ) → get_or book i 0 < 256) where
    head_again : 1 ∷ count_in book ∷ drop 2 book ≡ book
    head_again =
        let b = is_book in
        let ends = order_ends (length book) (first_body (count_in book)) (entries_of book) b.order in
        ap (λ (first : ℕ). first ∷ count_in book ∷ drop 2 book) (sym b.one)
        ∙ sym
        (drop-cons book 0 0 (omega arith)
        ∙ ap (λ (l : List ℕ). get_or book 0 0 ∷ l) (drop-cons book 1 0 (omega arith)))

    pub book_again : book_of (entries_of book) (joined book (entries_of book)) ≡ book
    unfolding book_of
    book_again =
        let b = is_book in
        let k = count_in book in
        let ends = order_ends (length book) (first_body k) (entries_of book) b.order in
        rw (
          count_entries,
          placed_order (length book) (first_body k) (entries_of book) b.order,
          read_joined,
          entries_again k (drop 2 book) (small_rest 2 book small) (simp length-drop (omega arith)),
          ← drop-drop (12 * k) 2 book,
          take-append-drop (12 * k) (drop 2 book),
        )
        head_again

    module _ (out : List ℕ) (room : length book ≤ length out) where
      bodies_size : length (joined book (entries_of book)) ≡ 4 * steps_of (entries_of book)
      bodies_size =
          let b = is_book in
          let ends = order_ends (length book) (first_body (count_in book)) (entries_of book) b.order in
          ap length read_joined ∙ length-drop (first_body (count_in book)) book ∙ omega arith

      whole_size : size (read_contents book) (length (joined book (entries_of book))) ≡ length book
      whole_size =
          let b = is_book in
          let ends = order_ends (length book) (first_body (count_in book)) (entries_of book) b.order in
          omega (arith, bodies_size)

      again_none : write_refusal (read_contents book) (length (joined book (entries_of book))) (length out) ≡ 0
      again_none =
          let b = is_book in
          not_refused_lem (read_contents book) (length (joined book (entries_of book))) (length out)
          (record {
            few = b.few;
            settings = ap (every settings_fit) read_counted ∙ b.settings;
            whole = bodies_size ∙ ap (λ (es : List Entry). 4 * steps_of es) (sym read_counted);
            small = omega (arith, whole_size, b.small);
            roomy = omega (arith, whole_size);
          })

      pub again_writing :
          writing (read_contents book) (length (joined book (entries_of book))) (length out)
          ≡ record { refusal = 0; bytes = length book }
      unfolding writing
      again_writing = rw (again_none, whole_size)

      pub again_output :
          output (read_contents book) (joined book (entries_of book)) out ≡ book ++ drop (length book) out
      unfolding output
      again_output = rw (again_none, whole_size, read_counted, book_again)

-- what is read, in bytes: the book's own behind the count, and zeros behind those
module _ (book : List ℕ) (e : refusal book ≡ 0) (small : (i : ℕ) → get_or book i 0 < 256) where
  abbrev raw : List ℕ
  raw = take (12 * count_in book) (drop 2 book)

  raw_entries : raw ≡ contents_bytes (entries_of book)
  raw_entries =
      let b = is_book book e in
      let ends = order_ends (length book) (first_body (count_in book)) (entries_of book) b.order in
      sym
      (entries_again (count_in book) (drop 2 book) (small_rest 2 book small) (simp length-drop (omega arith)))

  raw_read : bytes_of (reading book).contents ≡ (count_in book ∷ raw) ++ replicate (12 * (64 - count_in book)) 0
  unfolding bytes_of
  raw_read =
      let m = 64 - length (entries_of book) in
      let left : 12 * m ≡ 12 * (64 - count_in book) = ap (λ (k : ℕ). 12 * (64 - k)) (count_entries book e) in
      rw (accepted book e)
      (ap (λ (l : List ℕ). count_in book ∷ l)
      (contents_joined (entries_of book) (replicate m no_entry)
      ∙ ap (λ (l : List ℕ). l ++ contents_bytes (replicate m no_entry)) (sym raw_entries)
      ∙ ap (λ (l : List ℕ). raw ++ l) (contents_zeros m ∙ ap (λ (n : ℕ). replicate n 0) left)))

  -- (`room` is 769; as a number it would be written out)
  pub listed_bytes : (room few : ℕ) → room ≡ 769 → few ≡ first_body (count_in book) - 1
      → let listed = take few (drop 1 book) in
      (length listed ≡ few) × (listed ++ drop few (replicate {A = ℕ} room 0) ≡ bytes_of (reading book).contents)
  listed_bytes room few all is =
      let b = is_book book e in
      let ends = order_ends (length book) (first_body (count_in book)) (entries_of book) b.order in
      let number : few ≡ suc (12 * count_in book) = omega arith in
      let long : few ≤ length (drop 1 book) = simp length-drop (omega arith) in
      let behind : room - few ≡ 12 * (64 - count_in book) = omega (arith, b.few) in
      let zeros : drop few (replicate {A = ℕ} room 0) ≡ replicate (12 * (64 - count_in book)) 0 =
      rw (drop-replicate {X = ℕ} few room 0, behind) in
      let front : take few (drop 1 book) ≡ count_in book ∷ raw = rw (number, drop-cons book 1 0 (omega arith)) in
      (length-take-le few (drop 1 book) long, rw (front, zeros) (sym raw_read))

pub listed_book : (book : List ℕ) → ((i : ℕ) → get_or book i 0 < 256) → IsBook book
    → bytes_of (reading book).contents
    ≡ (count_in book ∷ take (12 * count_in book) (drop 2 book)) ++ replicate (12 * (64 - count_in book)) 0
listed_book book small b = raw_read book ((book_exact book).1 b) small

pub listed_zeros : (book : List ℕ) → (refusal book ≡ 0 → ⊥)
    → (room : ℕ) → room ≡ 769 → replicate room 0 ≡ bytes_of (reading book).contents
unfolding bytes_of
listed_zeros book some room all =
    let whole : room ≡ suc (12 * 64) = omega arith in
    rw (not_accepted book some)
    (ap (λ (n : ℕ). replicate n 0) whole ∙ ap (λ (l : List ℕ). 0 ∷ l) (sym (contents_zeros 64)))

-- read or refused, there are 64 places
pub read_places : (book : List ℕ) → length (reading book).contents.entries ≡ 64
unfolding reading
read_places book = go (eqb (refusal book) 0) refl
  where
    go : (t : Bool) → eqb (refusal book) 0 ≡ t → length (reading book).contents.entries ≡ 64
    go true h =
        let e = eqb-true (refusal book) 0 h in
        rw h (length_places (entries_of book) (omega (arith, count_entries book e, (is_book book e).few)))
    go false h = rw h (length_places [] (omega arith))

-- and no more than these count
pub read_few : (book : List ℕ) → (reading book).contents.count ≤ 64
unfolding reading
read_few book = go (eqb (refusal book) 0) refl
  where
    go : (t : Bool) → eqb (refusal book) 0 ≡ t → (reading book).contents.count ≤ 64
    go true h = rw h (head_accepted book (eqb-true (refusal book) 0 h)).few
    go false h = rw h (omega arith)

-- the settings of what is read fit
pub read_fit : (book : List ℕ) → (reading book).refusal ≡ 0 → every settings_fit (counted (reading book).contents) ≡ true
read_fit book none =
    let e = sym (read_refusal book) ∙ none in
    rw (accepted book e) (ap (every settings_fit) (read_counted book e) ∙ (is_book book e).settings)

-- their bodies are whole, and none has more bytes than a book
pub read_whole : (book : List ℕ) → (reading book).refusal ≡ 0
    → (every (λ e. eqb (length (body_of book e)) (4 * e.steps)) (counted (reading book).contents) ≡ true)
    × ((e : Entry) → length (body_of book e) ≤ most)
read_whole book none =
    let z = sym (read_refusal book) ∙ none in
    let b = is_book book z in (
      rw (accepted book z, read_counted book z)
          (whole_bodies book (first_body (count_in book)) (entries_of book) b.order),
      λ e.
          let rest = drop e.offset book in
          let body = take (4 * e.steps) rest in
          let behind = drop (4 * e.steps) rest in
          omega (
            arith,
            length-append body behind,
            ap length (take-append-drop (4 * e.steps) rest),
            length-drop e.offset book,
            b.small,
          ),
    )

pub read_again : (book out : List ℕ) → ((i : ℕ) → get_or book i 0 < 256) → (reading book).refusal ≡ 0
    → length book ≤ length out →
    let contents = (reading book).contents in
    let bodies = joined book (counted contents) in
    (writing contents (length bodies) (length out) ≡ record { refusal = 0; bytes = length book })
    × (output contents bodies out ≡ book ++ drop (length book) out)
read_again book out small none room =
    let e = sym (read_refusal book) ∙ none in
    rw (accepted book e, read_counted book e)
    (again_writing book e small out room, again_output book e small out room)

-- the book of some entries and bodies has these entries, placed, and these bodies
module _ (entries : List Entry) (bodies : List ℕ) where
  pub made_entries : entries_of (book_of entries bodies) ≡ placed (first_body (length entries)) entries
  unfolding book_of
  made_entries =
      let ps = placed (first_body (length entries)) entries in
      ap (λ (k : ℕ). entries_in k (contents_bytes ps ++ bodies)) (sym (length_placed (first_body (length entries)) entries))
      ∙ entries_back ps bodies

  made_bodies : drop (first_body (length entries)) (book_of entries bodies) ≡ bodies
  unfolding book_of
  made_bodies =
      let ps = placed (first_body (length entries)) entries in
      let long : length (1 ∷ length entries ∷ contents_bytes ps) ≡ first_body (length entries) =
      omega (arith, length_contents ps, length_placed (first_body (length entries)) entries) in
      drop_at (1 ∷ length entries ∷ contents_bytes ps) bodies (first_body (length entries)) long

  module _ (few : length entries ≤ 64) (all : every settings_fit entries ≡ true)
      (whole : length bodies ≡ 4 * steps_of entries) (fits : first_body (length entries) + length bodies ≤ most) where
    made_order : InOrder (length (book_of entries bodies)) (first_body (length entries)) (entries_of (book_of entries bodies))
    made_order =
        rw made_entries
        (order_placed (length (book_of entries bodies)) (first_body (length entries)) entries
        (omega (arith, length_book entries bodies)))

    pub made_book : IsBook (book_of entries bodies)
    unfolding book_of
    made_book =
        record {
          small = omega (arith, length_book entries bodies);
          one = refl;
          few = few;
          settings = ap (every settings_fit) made_entries ∙ fit_placed (first_body (length entries)) entries ∙ all;
          order = made_order;
        }

    made_joined : joined (book_of entries bodies) (entries_of (book_of entries bodies)) ≡ bodies
    made_joined =
        joined_rest (book_of entries bodies) (first_body (length entries)) (entries_of (book_of entries bodies)) made_order
        ∙ made_bodies

-- a book that was written is read as it was handed in
module _ (contents : Contents) (bodies out : List ℕ) (e : write_refusal contents (length bodies) (length out) ≡ 0) where
  count_counted : length (counted contents) ≡ contents.count
  count_counted = length_counted contents.count contents.entries

  written_size : length (book_of (counted contents) bodies) ≡ size contents (length bodies)
  written_size =
      length_book (counted contents) bodies ∙ ap (λ (k : ℕ). first_body k + length bodies) count_counted

  pub written_book : take (size contents (length bodies)) (output contents bodies out) ≡ book_of (counted contents) bodies
  unfolding output
  written_book =
      rw e
      (take_at (book_of (counted contents) bodies) (drop (size contents (length bodies)) out)
      (size contents (length bodies)) written_size)

  pub written_is : IsBook (book_of (counted contents) bodies)
  written_is =
      let w = writable contents (length bodies) (length out) e in
      made_book (counted contents) bodies (omega (arith, count_counted)) w.settings w.whole
      (omega (arith, count_counted))

  written_entries :
      entries_of (book_of (counted contents) bodies) ≡ placed (first_body contents.count) (counted contents)
  written_entries =
      made_entries (counted contents) bodies ∙ ap (λ (k : ℕ). placed (first_body k) (counted contents)) count_counted

  pub written_reading :
      reading (book_of (counted contents) bodies)
      ≡ record {
        refusal = 0;
        contents =
            record { count = contents.count; entries = places (placed (first_body contents.count) (counted contents)) };
      }
  unfolding book_of
  written_reading =
      let book = book_of (counted contents) bodies in
      let count : count_in book ≡ contents.count = count_counted in
      accepted book ((book_exact book).1 written_is) ∙ rw (written_entries, count)

  pub written_joined :
      joined (book_of (counted contents) bodies) (placed (first_body contents.count) (counted contents)) ≡ bodies
  written_joined =
      let w = writable contents (length bodies) (length out) e in
      rw (← written_entries)
      (made_joined (counted contents) bodies (omega (arith, count_counted)) w.settings w.whole
      (omega (arith, count_counted)))

  written_whole :
      every (λ entry. eqb (length (body_of (book_of (counted contents) bodies) entry)) (4 * entry.steps))
      (placed (first_body contents.count) (counted contents))
      ≡ true
  written_whole =
      let book = book_of (counted contents) bodies in
      rw (← written_entries) (whole_bodies book (first_body (count_in book)) (entries_of book) written_is.order)

  pub written_again :
      let book = take (size contents (length bodies)) (output contents bodies out) in
      let entries = placed (first_body contents.count) (counted contents) in
      (reading book
      ≡ record { refusal = 0; contents = record { count = contents.count; entries = places entries } })
      × (joined book entries ≡ bodies)
      × (every (λ entry. eqb (length (body_of book entry)) (4 * entry.steps)) entries ≡ true)
  written_again = rw written_book (written_reading, written_joined, written_whole)

-- the books are those that the writer writes
pub book_format : (book : List ℕ) → ((i : ℕ) → get_or book i 0 < 256)
    → IsBook book
    ↔ ((contents : Contents)
    × (bodies : List ℕ)
    × (length contents.entries ≡ 64)
    × (every entry_fits contents.entries ≡ true)
    × (write_refusal contents (length bodies) (length book) ≡ 0)
    × (book_of (counted contents) bodies ≡ book))
book_format book small = (forward, λ w. subst IsBook w.5 (written_is w.0 w.1 book w.4))
  where
    forward : IsBook book
        → (contents : Contents)
        × (bodies : List ℕ)
        × (length contents.entries ≡ 64)
        × (every entry_fits contents.entries ≡ true)
        × (write_refusal contents (length bodies) (length book) ≡ 0)
        × (book_of (counted contents) bodies ≡ book)
    forward b =
        let e = (book_exact book).1 b in
        let bodies = joined book (entries_of book) in (
          read_contents book,
          bodies,
          length_places (entries_of book) (omega (arith, count_entries book e, b.few)),
          every_joined entry_fits (entries_of book) (replicate (64 - length (entries_of book)) no_entry)
              (entries_fit (count_in book) (drop 2 book) (small_rest 2 book small))
              (zeros_fit (64 - length (entries_of book))),
          again_none book e small book (omega arith),
          ap (λ (es : List Entry). book_of es bodies) (read_counted book e) ∙ book_again book e small,
        )
