-- Entries in bytes: how many there are, that entries are read back as they were written, and that bytes are written again as
-- they were read.
use mathlib.Core.Path.{◌≡◌, refl, sym, ap, ◌∙◌}
use mathlib.Core.List.{List, [], ◌∷◌, ◌++◌, append_assoc}
use Prim.Native.Nat.{ℕ, zero, suc, ◌+◌, ◌*◌, ◌-◌, ◌≤◌, ◌<◌}
use native.Mathlib.Nat.{zero-add}
use native.Mathlib.Omega.{arith}
use lib.ListN.{length, get_or, take, drop, replicate, length-append, length-drop, length-replicate, replicate-append-replicate}
use Rattle.std.proofs.lemmas.List.{drop-replicate}
use lib.Seq.{sets, sets-eq, drop_at, drop-drop, take-add, take_all, get_or-drop}
use Rattle.basics.specs.Bytes.{four_bytes}
use Rattle.basics.proofs.Fields.{fields_back, fields_again}
use Rattle.book.specs.Format.{layout, fields, named, entry_in, entry_bytes, entries_in, contents_bytes, body_end, no_entry}
use Rattle.book.specs.Format.{bytes_of, placed_at, placed}
use Rattle.book.specs.declared.Entry.{Entry}
use Rattle.book.specs.declared.Contents.{Contents}

pub length_entry : (e : Entry) → length (entry_bytes e) ≡ 12
unfolding entry_bytes
length_entry e = refl

pub length_placed : (at : ℕ) (entries : List Entry) → length (placed at entries) ≡ length entries
unfolding placed
length_placed at [] = refl
length_placed at (e ∷ rest) = ap suc (length_placed (body_end at e) rest)

pub length_contents : (entries : List Entry) → length (contents_bytes entries) ≡ 12 * length entries
unfolding contents_bytes
length_contents [] = refl
length_contents (e ∷ rest) =
    length-append (entry_bytes e) (contents_bytes rest) ∙ omega (arith, length_entry e, length_contents rest)

pub length_first : (at : ℕ) (entries : List Entry) → length (contents_bytes (placed at entries)) ≡ 12 * length entries
length_first at entries = length_contents (placed at entries) ∙ ap (λ (n : ℕ). 12 * n) (length_placed at entries)

pub length_listed : (contents : Contents) → length contents.entries ≡ 64 → length (bytes_of contents) ≡ 769
unfolding bytes_of
length_listed contents all = omega (arith, length_contents contents.entries)

-- an entry that was written is read back, and so are all of them
entry_back : (e : Entry) (after : List ℕ) → entry_in (entry_bytes e ++ after) ≡ e
unfolding entry_in entry_bytes
entry_back e after = ap named (fields_back layout (fields e) [] after refl)

pub entries_back : (entries : List Entry) (after : List ℕ)
    → entries_in (length entries) (contents_bytes entries ++ after) ≡ entries
unfolding entries_in contents_bytes
entries_back [] after = refl
entries_back (e ∷ rest) after =
    let behind = contents_bytes rest ++ after in
    rw (
      append_assoc (entry_bytes e) (contents_bytes rest) after,
      entry_back e behind,
      drop_at (entry_bytes e) behind 12 (length_entry e),
      entries_back rest after,
    )

-- an entry that was read is written again as it stood, and so are all of them
module _ (bytes : List ℕ) (small : (i : ℕ) → get_or bytes i 0 < 256) where
  entry_again : 12 ≤ length bytes → entry_bytes (entry_in bytes) ≡ take 12 bytes
  unfolding entry_in entry_bytes
  entry_again h = fields_again bytes small layout 0 (omega arith)

pub small_rest : (at : ℕ) (bytes : List ℕ) → ((i : ℕ) → get_or bytes i 0 < 256) → (i : ℕ) → get_or (drop at bytes) i 0 < 256
small_rest at bytes small i = rw (get_or-drop at bytes i 0) (small (at + i))

pub entries_again : (k : ℕ) (bytes : List ℕ) → ((i : ℕ) → get_or bytes i 0 < 256) → 12 * k ≤ length bytes
    → contents_bytes (entries_in k bytes) ≡ take (12 * k) bytes
unfolding entries_in contents_bytes
entries_again zero bytes small h = refl
entries_again (suc k) bytes small h =
    let whole : 12 * suc k ≡ 12 + 12 * k = omega arith in
    rw (
      entry_again bytes small (omega arith),
      entries_again k (drop 12 bytes) (small_rest 12 bytes small) (simp length-drop (omega arith)),
      whole,
    )
    (sym (take-add 12 (12 * k) bytes))

-- an entry that stands there as it was handed in, once the writer has put there what it puts itself
place_put : (e : Entry) (at : ℕ) → sets (entry_bytes e) 6 (four_bytes at) ≡ entry_bytes (placed_at at e)
unfolding entry_bytes
place_put e at = refl

pub entry_placed : (bytes : List ℕ) → ((i : ℕ) → get_or bytes i 0 < 256) → 12 ≤ length bytes → (at : ℕ)
    → entry_bytes (placed_at at (entry_in bytes)) ≡ sets (take 12 bytes) 6 (four_bytes at)
entry_placed bytes small long at =
    sym (place_put (entry_in bytes) at) ∙ ap (λ (l : List ℕ). sets l 6 (four_bytes at)) (entry_again bytes small long)

-- the bytes of entries one behind the other, and of places that are zeros
pub contents_joined : (entries after : List Entry)
    → contents_bytes (entries ++ after) ≡ contents_bytes entries ++ contents_bytes after
unfolding contents_bytes
contents_joined [] after = refl
contents_joined (e ∷ rest) after =
    ap (λ (l : List ℕ). entry_bytes e ++ l) (contents_joined rest after)
    ∙ sym (append_assoc (entry_bytes e) (contents_bytes rest) (contents_bytes after))

pub contents_zeros : (m : ℕ) → contents_bytes (replicate m no_entry) ≡ replicate (12 * m) 0
unfolding contents_bytes entry_bytes
contents_zeros zero = refl
contents_zeros (suc m) =
    let whole : 12 + 12 * m ≡ 12 * suc m = omega arith in
    ap (λ (l : List ℕ). replicate 12 0 ++ l) (contents_zeros m)
    ∙ replicate-append-replicate 12 (12 * m) 0
    ∙ ap (λ (n : ℕ). replicate n 0) whole

-- values that are set at the start of places that are all the same
pub sets_same : {A : Type 0} (x : A) (values : List A) (room : ℕ) → length values ≤ room
    → sets (replicate room x) 0 values ≡ values ++ replicate (room - length values) x
sets_same {A} x values room h =
    sets-eq values (replicate room x) 0 (omega (arith, length-replicate room x))
    ∙ ap (λ (l : List A). values ++ l)
    (drop-replicate (0 + length values) room x ∙ ap (λ (k : ℕ). replicate (room - k) x) (zero-add (length values)))

-- bytes that stand in the place of as many, from a place on, are written there
abbrev pub put : ℕ → ℕ → List ℕ → List ℕ → List ℕ
put at few part source = take at part ++ (source ++ drop few (drop at part))

pub put_down : (part source : List ℕ) (at few : ℕ) → few ≡ length source → at + few ≤ length part
    → put at few part source ≡ sets part at source
put_down part source at few is room =
    rw (is, drop-drop (length source) at part, sets-eq source part at (omega arith))
    (sym (append_assoc (take at part) source (drop (at + length source) part)))

pub put_front : (part source : List ℕ) → length source ≤ length part
    → source ++ drop (length source) part ≡ sets part 0 source
put_front part source room = rw (sets-eq source part 0 (omega arith), zero-add)

-- so is the offset, in the 12 bytes of an entry
pub part_placed : (part : List ℕ) (at : ℕ) → ((i : ℕ) → get_or part i 0 < 256) → length part ≡ 12
    → put 6 4 part (four_bytes at) ≡ entry_bytes (placed_at at (entry_in part))
part_placed part at small long =
    put_down part (four_bytes at) 6 4 refl (omega arith)
    ∙ sym
    (entry_placed part small (omega arith) at
    ∙ ap (λ (l : List ℕ). sets l 6 (four_bytes at)) (take_all 12 part (omega arith)))
