-- A capture (01, 'The judge'): a row of steps, four bytes each; and refusals 8 and 9, for every entry that takes one.
use Rattle.std.specs.Prelude.{not, List, [], ◌∷◌, ℕ, ◌+◌, ◌%◌, ltb, eqb, get_or}
use Rattle.basics.specs.First.{Check, ◌when◌}

-- received K1, K2, sent K1, K2
pub record Row : Type 0 where
  pub k1 : ℕ
  pub k2 : ℕ
  pub sent_k1 : ℕ
  pub sent_k2 : ℕ

abbrev pub row : ℕ → ℕ → ℕ → ℕ → Row
row k1 k2 sent_k1 sent_k2 = record { k1 = k1; k2 = k2; sent_k1 = sent_k1; sent_k2 = sent_k2 }

-- fewer than four bytes are no step
abbrev pub rows_of : List ℕ → List Row
rows_of (k1 ∷ k2 ∷ sent_k1 ∷ sent_k2 ∷ rest) = row k1 k2 sent_k1 sent_k2 ∷ rows_of rest
rows_of (k1 ∷ k2 ∷ sent_k1 ∷ []) = []
rows_of (k1 ∷ k2 ∷ []) = []
rows_of (k1 ∷ []) = []
rows_of [] = []

-- the row of the four bytes from a place on
abbrev pub row_at : List ℕ → ℕ → Row
row_at bytes at = row (get_or bytes at 0) (get_or bytes (at + 1) 0) (get_or bytes (at + 2) 0) (get_or bytes (at + 3) 0)

-- bytes of a capture
abbrev pub most : ℕ
most = 65536

-- refusals 8 and 9, in this order
abbrev pub size_faults : ℕ → List Check
size_faults size = (8 when not (eqb (size % 4) 0)) ∷ (9 when ltb most size) ∷ []
