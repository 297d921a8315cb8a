-- The entries that count, of contents in bytes that are handed to the writer, and what is asked of them one by one: whether
-- their settings fit, and the sum of their steps.
use mathlib.Core.Path.{◌≡◌, refl, sym, ap, ◌∙◌}
use mathlib.Core.List.{List, [], ◌∷◌, ◌++◌}
use Prim.Native.Nat.{ℕ, zero, suc, ◌+◌, ◌≤◌}
use native.Mathlib.Nat.{le_of_suc-le-suc, not-suc-le-zero}
use lib.ListN.{length, get_or, drop}
use Rattle.basics.specs.First.{first_of}
use Rattle.basics.proofs.First.{first_behind, first_before}
use Rattle.book.specs.Format.{entry_in, entries_in, contents_in, settings_faults}
use Rattle.book.specs.Writer.{first_places, counted, steps_of, entries_faults}
use Rattle.book.specs.declared.Entry.{Entry}

pub length_counted : (k : ℕ) (entries : List Entry) → length (first_places k entries) ≡ k
unfolding first_places
length_counted zero entries = refl
length_counted (suc k) entries = ap suc (length_counted k (drop 1 entries))

first_listed : (k m : ℕ) (bytes : List ℕ) → k ≤ m → first_places k (entries_in m bytes) ≡ entries_in k bytes
unfolding first_places entries_in
first_listed zero m bytes h = refl
first_listed (suc k) zero bytes h = absurd (not-suc-le-zero h)
first_listed (suc k) (suc m) bytes h =
    ap (λ (es : List Entry). entry_in bytes ∷ es) (first_listed k m (drop 12 bytes) (le_of_suc-le-suc h))

abbrev pub handed : List ℕ → List Entry
handed bytes = entries_in (get_or bytes 0 0) (drop 1 bytes)

module _ (bytes : List ℕ) where
  pub counted_handed : (contents_in bytes).count ≤ 64 → counted (contents_in bytes) ≡ handed bytes
  unfolding contents_in
  counted_handed few = first_listed (get_or bytes 0 0) 64 (drop 1 bytes) few

-- the settings: of the next entry, and of those behind it
module _ {entries rest : List Entry} {e : Entry} (next : entries ≡ e ∷ rest) where
  next_faults : first_of (settings_faults e ++ entries_faults rest) ≡ first_of (entries_faults entries)
  unfolding entries_faults
  next_faults = ap (λ (es : List Entry). first_of (entries_faults es)) (sym next)

  pub ask_next : 0 ≡ first_of (settings_faults e) → first_of (entries_faults rest) ≡ first_of (entries_faults entries)
  ask_next none = sym (first_behind (settings_faults e) (entries_faults rest) refl (sym none)) ∙ next_faults

  pub ask_refused : (number : ℕ) → number ≡ first_of (settings_faults e) → (number ≡ 0 → ⊥)
      → number ≡ first_of (entries_faults entries)
  ask_refused number is some =
      is ∙ sym (first_before (settings_faults e) (entries_faults rest) (λ z. some (is ∙ z))) ∙ next_faults

pub ask_done : {entries : List Entry} → entries ≡ [] → 0 ≡ first_of (entries_faults entries)
unfolding entries_faults
ask_done none = ap (λ (es : List Entry). first_of (entries_faults es)) (sym none)

-- the steps: of the next entry, and of those behind it
pub steps_next : {entries rest : List Entry} {e : Entry} → entries ≡ e ∷ rest → steps_of entries ≡ e.steps + steps_of rest
unfolding steps_of
steps_next next = ap steps_of next

pub steps_none : {entries : List Entry} → entries ≡ [] → steps_of entries ≡ 0
unfolding steps_of
steps_none none = ap steps_of none
