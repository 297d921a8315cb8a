-- Rows that repeat the row before them.
use Rattle.std.specs.Prelude.{if◌then◌else◌, Bool, ◌&&◌, List, [], ◌∷◌, ℕ, suc, ◌-◌, ◌/◌, ltb, eqb, length, drop}
use Rattle.std.specs.Str.{bytes_eq}
use Rattle.std.specs.Simd.{first_chunks}
use Rattle.basics.specs.Capture.{Row, rows_of, row_at}

-- the row before stands four bytes back
abbrev pub back : ℕ
back = 4

abbrev pub same_row : Row → Row → Bool
same_row p q =
    eqb p.k1 q.k1 && eqb p.k2 q.k2 && eqb p.sent_k1 q.sent_k1 && eqb p.sent_k2 q.sent_k2

-- how many rows, from the first on, are this one
abbrev pub run_of : Row → List Row → ℕ
run_of r [] = 0
run_of r (q ∷ rows) = if same_row r q then suc (run_of r rows) else 0

-- how many rows from a place on equal the row before it; none, where no row stands before
abbrev pub repeated : List ℕ → ℕ → ℕ
repeated bytes at = if ltb at back then 0 else run_of (row_at bytes (at - back)) (rows_of (drop at bytes))

-- Need not be believed, from here on. How many pieces of bytes, from the first on, are this one.
abbrev pub leading : List ℕ → List (List ℕ) → ℕ
leading piece [] = 0
leading piece (next ∷ rest) = if bytes_eq piece next then suc (leading piece rest) else 0

-- the rows of bytes as pieces of them
abbrev pub rows_in : List ℕ → List (List ℕ)
rows_in bytes = first_chunks 4 (length bytes / 4) bytes
