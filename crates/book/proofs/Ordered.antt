-- Bodies in order without gaps: what the reader's checks come to, and what the joined bodies are.
use mathlib.Core.Path.{◌≡◌, refl, sym, ap, ◌∙◌}
use mathlib.Core.Bool.{Bool, true, ◌&&◌, true≢false}
use mathlib.Core.List.{List, [], ◌∷◌, ◌++◌}
use mathlib.Core.Logic.{◌↔◌, ◌⊎◌, inl, inr}
use Prim.Native.Nat.{ℕ, zero, suc, ◌+◌, ◌*◌, ◌≤◌}
use native.Mathlib.Omega.{arith}
use lib.Dec.{eqb}
use lib.ListN.{length, get_or, drop, length-drop, take-append-drop, drop_of_length-le}
use lib.Seq.{drop-drop, length-take-le}
use borrow.Author.Tests.{ltb-false, le-ltb, eq-eqb}
use Rattle.basics.specs.First.{Check, first_of, number_of, FirstAt}
use Rattle.basics.proofs.First.{numbered, none_exact, none_both, first_applies}
use Rattle.basics.specs.Table.{every}
use Rattle.book.specs.Format.{count_in, entries_of, first_body, body_end, settings_fit, InOrder, most, IsBook, body_of}
use Rattle.book.specs.Format.{joined, placed_at, placed}
use Rattle.book.specs.Reader.{head_faults, entry_faults, body_faults, read_faults, refusal}
use Rattle.book.specs.Writer.{steps_of}
use Rattle.book.specs.declared.Entry.{Entry}
use Rattle.book.proofs.Refusals.{headed, fit_each, fit_every, sound}

-- in order from a place on: the steps tell how far, so that no body passes the end
pub order_ends : (size at : ℕ) (entries : List Entry) → InOrder size at entries → at + 4 * steps_of entries ≡ size
unfolding InOrder steps_of
order_ends size at [] o = omega (arith, o)
order_ends size at (e ∷ rest) o = omega (arith, order_ends size (body_end at e) rest o.1)

-- the checks of a list of entries, each behind the last: none applies exactly where the settings fit and the bodies are in
-- order
pub order_none : (size at : ℕ) (entries : List Entry) → every settings_fit entries ≡ true → InOrder size at entries
    → first_of (body_faults size at entries) ≡ 0
unfolding InOrder body_faults
order_none size at [] all o = rw (le-ltb at size (omega (arith, o)))
order_none size at (e ∷ rest) all o =
    let ends = order_ends size (body_end at e) rest o.1 in
    let fits = fit_every e rest all in
    let each = fit_each e fits.0 in
    rw (
      each.0,
      each.1,
      each.2,
      eq-eqb e.offset at o.0,
      le-ltb size (body_end at e) (omega arith),
    )
    (order_none size (body_end at e) rest fits.1 o.1)

pub none_order : (size at : ℕ) (entries : List Entry) → at ≤ size → first_of (body_faults size at entries) ≡ 0
    → (every settings_fit entries ≡ true) × InOrder size at entries
unfolding InOrder body_faults
none_order size at [] h e =
    let reached = ltb-false at size ((none_exact (body_faults size at []) refl).0 e 0) in (refl, omega arith)
none_order size at (entry ∷ rest) h e =
    let both = none_both (entry_faults size at entry) (body_faults size (body_end at entry) rest) refl e in
    let s = sound size at entry both.0 in
    let later = none_order size (body_end at entry) rest s.inside both.1 in
    (rw s.fits later.0, (s.there, later.1))

-- the bodies of a book that are in order, joined, are all that stands from the first one on
pub joined_rest : (book : List ℕ) (at : ℕ) (entries : List Entry) → InOrder (length book) at entries
    → joined book entries ≡ drop at book
unfolding InOrder joined
joined_rest book at [] o = sym (drop_of_length-le book {i = at} (omega (arith, o)))
joined_rest book at (e ∷ rest) o =
    rw (o.0, joined_rest book (body_end at e) rest o.1, ← drop-drop (4 * e.steps) at book)
    (take-append-drop (4 * e.steps) (drop at book))

-- and each has as many bytes as its steps call for
pub whole_bodies : (book : List ℕ) (at : ℕ) (entries : List Entry) → InOrder (length book) at entries
    → every (λ e. eqb (length (body_of book e)) (4 * e.steps)) entries ≡ true
unfolding InOrder
whole_bodies book at [] o = refl
whole_bodies book at (e ∷ rest) o =
    let ends = order_ends (length book) (body_end at e) rest o.1 in
    let long : length (body_of book e) ≡ 4 * e.steps =
    length-take-le (4 * e.steps) (drop e.offset book) (simp length-drop (omega (arith, o.0))) in
    rw (eq-eqb (length (body_of book e)) (4 * e.steps) long) (whole_bodies book (body_end at e) rest o.1)

-- entries that are in order are placed as they stand, and placed entries are in order
pub placed_order : (size at : ℕ) (entries : List Entry) → InOrder size at entries → placed at entries ≡ entries
unfolding InOrder placed
placed_order size at [] o = refl
placed_order size at (e ∷ rest) o =
    let here : placed_at at e ≡ e = ap (λ (offset : ℕ). placed_at offset e) (sym o.0) in
    rw (here, placed_order size (body_end at e) rest o.1)

pub order_placed : (size at : ℕ) (entries : List Entry) → at + 4 * steps_of entries ≡ size
    → InOrder size at (placed at entries)
unfolding InOrder placed steps_of
order_placed size at [] h = omega (arith, h)
order_placed size at (e ∷ rest) h = (refl, order_placed size (body_end at e) rest (omega (arith, h)))

-- and no settings are others
pub fit_placed : (at : ℕ) (entries : List Entry) → every settings_fit (placed at entries) ≡ every settings_fit entries
unfolding placed
fit_placed at [] = refl
fit_placed at (e ∷ rest) = ap (λ (t : Bool). settings_fit e && t) (fit_placed (body_end at e) rest)

-- a book is refused with nothing exactly if it is one
pub book_exact : (book : List ℕ) → (refusal book ≡ 0) ↔ IsBook book
unfolding refusal
book_exact book = (forward, backward)
  where
    checks : List Check
    checks = body_faults (length book) (first_body (count_in book)) (entries_of book)

    forward : first_of (head_faults book ++ checks) ≡ 0 → IsBook book
    forward e =
        let both = none_both (head_faults book) checks refl e in
        let h = headed book both.0 in
        let entries = none_order (length book) (first_body (count_in book)) (entries_of book) h.uncut both.1 in
        record { small = h.small; one = h.one; few = h.few; settings = entries.0; order = entries.1 }

    backward : IsBook book → first_of (head_faults book ++ checks) ≡ 0
    backward b =
        let ends = order_ends (length book) (first_body (count_in book)) (entries_of book) b.order in
        rw (
          le-ltb most (length book) b.small,
          le-ltb (length book) 2 (omega arith),
          eq-eqb (get_or book 0 0) 1 b.one,
          le-ltb 64 (count_in book) b.few,
          le-ltb (length book) (first_body (count_in book)) (omega arith),
        )
        (order_none (length book) (first_body (count_in book)) (entries_of book) b.settings b.order)

bodies_numbered : (size at : ℕ) (entries : List Entry) → numbered (body_faults size at entries) ≡ true
unfolding body_faults
bodies_numbered size at [] = refl
bodies_numbered size at (e ∷ rest) = bodies_numbered size (body_end at e) rest

-- the first check that applies gives the refusal, or the bytes are a book
pub refused_or_book : (book : List ℕ)
    → ((i : ℕ) × FirstAt (read_faults book) i × (refusal book ≡ number_of (read_faults book) i)) ⊎ IsBook book
unfolding refusal
refused_or_book book = go (refusal book) refl
  where
    go : (n : ℕ) → refusal book ≡ n
        → ((i : ℕ) × FirstAt (read_faults book) i × (refusal book ≡ number_of (read_faults book) i)) ⊎ IsBook book
    go zero e = inr ((book_exact book).0 e)
    go (suc n) e = inl (first_applies (read_faults book) (λ z. omega arith))

pub refused_no_book : (book : List ℕ) (i : ℕ) → FirstAt (read_faults book) i → IsBook book → ⊥
unfolding refusal
refused_no_book book i first b =
    let named = bodies_numbered (length book) (first_body (count_in book)) (entries_of book) in
    let none = (none_exact (read_faults book) named).0 ((book_exact book).1 b) i in
    true≢false (sym first.applies ∙ none)
