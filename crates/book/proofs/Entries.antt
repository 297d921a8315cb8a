-- The entries of a book as they stand in its contents, the loop that reads them, and the walk that checks each.
use mathlib.Core.Path.{◌≡◌, refl, sym, ap, ◌∙◌}
use mathlib.Core.List.{List, [], ◌∷◌, ◌++◌}
use Prim.Native.Nat.{ℕ, zero, suc, ◌+◌, ◌*◌, ◌≤◌, ◌<◌}
use native.Mathlib.Nat.{le_of_suc-le-suc, not-suc-le-zero}
use native.Mathlib.Numerals.{add-one}
use native.Mathlib.Omega.{arith}
use lib.ListN.{length, get_or, set, drop, replicate}
use lib.Seq.{sets, drop-cons, drop-drop}
use borrow.Author.Tests.{lt-ltb, le-ltb, ne_eqb}
use Rattle.std.specs.Prelude.{Ok, Err}
use Rattle.basics.specs.Answer.{Answers}
use Rattle.basics.specs.First.{first_of}
use Rattle.basics.specs.Refusal.{refusal_number}
use Rattle.basics.specs.declared.refusal.Refusal.{Refusal}
use Rattle.basics.proofs.Refusals.{number_some, with_number}
use Rattle.basics.proofs.First.{first_behind, first_before, none_both}
use Rattle.book.specs.Format.{entry_in, first_body, body_end, no_entry, places, count_in, entries_in, entries_of}
use Rattle.book.specs.Reader.{head_faults, entry_faults, body_faults, refusal}
use Rattle.book.specs.Reader.{refused_reading, reading, reading_told, reading_case}
use Rattle.book.specs.declared.Entry.{Entry}
use Rattle.book.proofs.Laid.{sets_same}
use Rattle.book.proofs.Refusals.{Headed, headed, sound}

pub length_entries : (k : ℕ) (bytes : List ℕ) → length (entries_in k bytes) ≡ k
unfolding entries_in
length_entries zero bytes = refl
length_entries (suc k) bytes = ap suc (length_entries k (drop 12 bytes))

pub entry_at : (k i : ℕ) (bytes : List ℕ) → i < k → get_or (entries_in k bytes) i no_entry ≡ entry_in (drop (12 * i) bytes)
unfolding entries_in
entry_at zero i bytes h = absurd (not-suc-le-zero h)
entry_at (suc k) zero bytes h = refl
entry_at (suc k) (suc i) bytes h =
    let far : 12 + 12 * i ≡ 12 * suc i = omega arith in
    entry_at k i (drop 12 bytes) (le_of_suc-le-suc h)
    ∙ ap entry_in (drop-drop (12 * i) 12 bytes ∙ ap (λ (n : ℕ). drop n bytes) far)

-- k entries behind the first bytes: those from i on, taken one further
pub entries_next : (k at i : ℕ) (bytes : List ℕ) → i < k
    → drop i (entries_in k (drop at bytes))
    ≡ entry_in (drop (at + 12 * i) bytes) ∷ drop (i + 1) (entries_in k (drop at bytes))
entries_next k at i bytes h =
    let entries = entries_in k (drop at bytes) in
    let inside : i < length entries = omega (arith, length_entries k (drop at bytes)) in
    rw (add-one, drop-cons entries i no_entry)
    (ap (λ (e : Entry). e ∷ drop (suc i) entries)
    (entry_at k i (drop at bytes) h ∙ ap entry_in (drop-drop (12 * i) at bytes)))

-- Entries of a list are kept in 64 places, those before i already; the others are left.
pub record Taking (all kept left : List Entry) (i : ℕ) : Type 0 where
  pub few : i + length left ≤ 64
  pub taken : sets kept i left ≡ sets (replicate 64 no_entry) 0 all

pub take_start : (all left : List Entry) (i : ℕ) → length all ≤ 64 → left ≡ all → i ≡ 0
    → Taking all (replicate 64 no_entry) left i
take_start all left i few whole none = rw (whole, none) (record { few = omega arith; taken = refl })

module _ {all kept left : List Entry} {i : ℕ} (taking : Taking all kept left i) where
  pub take_next : {e : Entry} {rest : List Entry} {at j : ℕ} → left ≡ e ∷ rest → at ≡ i → j ≡ i + 1
      → Taking all (set kept at e) rest j
  take_next {e} {rest} next here on =
      rw (here, on)
      (record {
        few = omega (arith, taking.few, ap length next);
        taken =
            ap (λ (n : ℕ). sets (set kept i e) n rest) (add-one i) ∙ ap (sets kept i) (sym next) ∙ taking.taken;
      })

  pub take_done : length all ≤ 64 → left ≡ [] → kept ≡ places all
  take_done few none = ap (sets kept i) (sym none) ∙ taking.taken ∙ sets_same no_entry all 64 few

-- How far the walk has come: the entries before those that are left are without fault, and the body of the next one belongs
-- at `at`. What is left of the checks decides the refusal.
pub record Walk (book : List ℕ) (at : ℕ) (left : List Entry) : Type 0 where
  pub head : Headed book
  pub before : at ≤ length book
  pub first : first_of (body_faults (length book) at left) ≡ refusal book

pub head_refused : (book : List ℕ) (number : ℕ) → number ≡ first_of (head_faults book) → (number ≡ 0 → ⊥)
    → number ≡ refusal book
unfolding refusal
head_refused book number e some =
    let rest = body_faults (length book) (first_body (count_in book)) (entries_of book) in
    e ∙ sym (first_before (head_faults book) rest (λ z. some (e ∙ z)))

pub walk_start : (book : List ℕ) → first_of (head_faults book) ≡ 0
    → Walk book (first_body (count_in book)) (entries_of book)
unfolding refusal
walk_start book e =
    let h = headed book e in
    let rest = body_faults (length book) (first_body (count_in book)) (entries_of book) in
    record { head = h; before = h.uncut; first = sym (first_behind (head_faults book) rest refl e) }

module _ {book : List ℕ} {at : ℕ} {left : List Entry} (walk : Walk book at left) where
  module _ {e : Entry} {rest : List Entry} (next : left ≡ e ∷ rest) where
    next_first : first_of (entry_faults (length book) at e ++ body_faults (length book) (body_end at e) rest) ≡ refusal book
    unfolding body_faults
    next_first = ap (λ (es : List Entry). first_of (body_faults (length book) at es)) (sym next) ∙ walk.first

    pub walk_step : 0 ≡ first_of (entry_faults (length book) at e) → Walk book (body_end at e) rest
    walk_step none =
        let checks = entry_faults (length book) at e in
        record {
          head = walk.head;
          before = (sound (length book) at e (sym none)).inside;
          first =
              sym (first_behind checks (body_faults (length book) (body_end at e) rest) refl (sym none)) ∙ next_first;
        }

    pub walk_refused : (number : ℕ) → number ≡ first_of (entry_faults (length book) at e) → (number ≡ 0 → ⊥)
        → number ≡ refusal book
    walk_refused number is some =
        let checks = entry_faults (length book) at e in
        is
        ∙ sym (first_before checks (body_faults (length book) (body_end at e) rest) (λ z. some (is ∙ z)))
        ∙ next_first

  module _ (done : left ≡ []) where
    last_first : first_of (body_faults (length book) at []) ≡ refusal book
    last_first = ap (λ (es : List Entry). first_of (body_faults (length book) at es)) (sym done) ∙ walk.first

    pub walk_left_over : at < length book → 28 ≡ refusal book
    unfolding body_faults
    walk_left_over h = rw (lt-ltb at (length book) h) at last_first

    pub walk_done : length book ≤ at → 0 ≡ refusal book
    unfolding body_faults
    walk_done h = rw (le-ltb at (length book) h) at last_first

-- the count of a book that is read, and of one that is refused
pub accepted : (book : List ℕ) → refusal book ≡ 0
    → reading book
    ≡ record { refusal = 0; contents = record { count = count_in book; entries = places (entries_of book) } }
unfolding reading
accepted book z = rw z

pub not_accepted : (book : List ℕ) → (refusal book ≡ 0 → ⊥) → reading book ≡ refused_reading (refusal book)
unfolding reading
not_accepted book some = rw (ne_eqb (refusal book) 0 some)

pub head_accepted : (book : List ℕ) → refusal book ≡ 0 → Headed book
unfolding refusal
head_accepted book z =
    let rest = body_faults (length book) (first_body (count_in book)) (entries_of book) in
    headed book (none_both (head_faults book) rest refl z).0

-- what is answered of a book that is read, and of one that is refused
pub read_answer : (book : List ℕ) (entries : List Entry) → 0 ≡ refusal book → entries ≡ places (entries_of book)
    → Answers reading_told reading_case (reading book) (Ok (record { count = count_in book; entries = entries }))
read_answer book entries none placed =
    rw (accepted book (sym none), placed) (record { numbers = refl; decided = refl })

pub refused_answer : (book : List ℕ) (e : Refusal) → refusal_number e ≡ refusal book
    → Answers reading_told reading_case (reading book) (Err e)
refused_answer book e is =
    let some : refusal book ≡ 0 → ⊥ = λ z. number_some e (is ∙ z) in
    rw (not_accepted book some, ← is)
    (record { numbers = refl; decided = rw (ne_eqb (refusal_number e) 0 (number_some e), with_number e) })
