-- The iterator over bytes: the entry that it gives next, and those that it then has left.
use Rattle.std.proofs.Common.{◌≡◌, refl, sym, ap, ◌∙◌, ℕ, zero, suc, ◌+◌, ◌*◌, ◌/◌, ◌<◌, ◌≤◌, List, [], ◌∷◌, length, get_or, take, drop, length-drop, arith}
use Rattle.std.proofs.lemmas.List.{get_or-take, length-take-le, take-take, drop-take}
use Rattle.basics.specs.Bytes.{two_at, four_at}
use Rattle.book.specs.Format.{entry_in, entries_in}
use Rattle.book.specs.declared.Entry.{Entry}

-- an entry is read off its own 12 bytes
pub entry_front : (bytes : List ℕ) → entry_in (take 12 bytes) ≡ entry_in bytes
unfolding entry_in two_at four_at
entry_front bytes =
    let at : (i : ℕ) → i < 12 → get_or (take 12 bytes) i 0 ≡ get_or bytes i 0 = λ i h. get_or-take 12 bytes i 0 h in
    rw (
      at 0 (omega arith),
      at 1 (omega arith),
      at 2 (omega arith),
      at 3 (omega arith),
      at 4 (omega arith),
      at 5 (omega arith),
      at 6 (omega arith),
      at 7 (omega arith),
      at 8 (omega arith),
      at 9 (omega arith),
      at 10 (omega arith),
      at 11 (omega arith),
    )

abbrev pub left_in : List ℕ → List Entry
left_in bytes = entries_in (length bytes / 12) bytes

pub none_left : (bytes : List ℕ) → length bytes < 12 → left_in bytes ≡ []
unfolding entries_in
none_left bytes h =
    let none : length bytes / 12 ≡ 0 = omega arith in
    rw none

pub next_left : (bytes : List ℕ) → 12 ≤ length bytes → left_in bytes ≡ entry_in (take 12 bytes) ∷ left_in (drop 12 bytes)
unfolding entries_in
next_left bytes h =
    let more : length bytes / 12 ≡ suc (length (drop 12 bytes) / 12) = simp length-drop (omega arith) in
    rw (more, entry_front bytes)

-- k entries are left of their own 12 k bytes
entries_front : (k : ℕ) (bytes : List ℕ) → entries_in k (take (12 * k) bytes) ≡ entries_in k bytes
unfolding entries_in
entries_front zero bytes = refl
entries_front (suc k) bytes =
    let whole : 12 * suc k ≡ 12 + 12 * k = omega arith in
    let first : entry_in (take (12 + 12 * k) bytes) ≡ entry_in bytes =
    sym (entry_front (take (12 + 12 * k) bytes))
    ∙ ap entry_in (take-take 12 (12 + 12 * k) bytes (omega arith))
    ∙ entry_front bytes in
    rw (whole, first, drop-take 12 (12 * k) bytes, entries_front k (drop 12 bytes))

pub whole_left : (k size : ℕ) (bytes : List ℕ) → size ≡ 12 * k → 12 * k ≤ length bytes
    → left_in (take size bytes) ≡ entries_in k bytes
whole_left k size bytes is h =
    let count : length (take size bytes) / 12 ≡ k = omega (arith, length-take-le size bytes (omega arith)) in
    rw (count, is) (entries_front k bytes)

-- the next entry, as the code has read it off its part
pub next_read : {left rest : List Entry} {e f : Entry} → left ≡ e ∷ rest → f ≡ e → left ≡ f ∷ rest
next_read next read = rw read next
