-- The rows of a capture in its bytes.
use mathlib.Core.Path.{◌≡◌, refl, sym, ap, ◌∙◌}
use mathlib.Core.List.{List, [], ◌∷◌}
use Prim.Native.Nat.{ℕ, zero, suc, ◌+◌, ◌*◌, ◌/◌, ◌≤◌}
use native.Mathlib.Nat.{add-zero}
use native.Mathlib.Omega.{arith}
use lib.ListN.{length, get_or, drop}
use lib.Seq.{drop-cons, get_or-drop}
use Rattle.basics.specs.Capture.{Row, rows_of, row_at}

pub rows_long : (bytes : List ℕ) → length (rows_of bytes) ≡ length bytes / 4
rows_long (a ∷ b ∷ c ∷ d ∷ rest) = let e = rows_long rest in omega arith
rows_long (a ∷ b ∷ c ∷ []) = omega arith
rows_long (a ∷ b ∷ []) = omega arith
rows_long (a ∷ []) = omega arith
rows_long [] = omega arith

pub row_here : (bytes : List ℕ) (at : ℕ) → at + 4 ≤ length bytes
    → rows_of (drop at bytes) ≡ row_at bytes at ∷ rows_of (drop (at + 4) bytes)
row_here bytes at room =
    let first : drop at bytes ≡ get_or bytes at 0 ∷ drop (suc at) bytes = drop-cons bytes at 0 (omega arith) in
    let second : drop (at + 1) bytes ≡ get_or bytes (at + 1) 0 ∷ drop (suc (at + 1)) bytes =
    drop-cons bytes (at + 1) 0 (omega arith) in
    let third : drop (at + 2) bytes ≡ get_or bytes (at + 2) 0 ∷ drop (suc (at + 2)) bytes =
    drop-cons bytes (at + 2) 0 (omega arith) in
    let fourth : drop (at + 3) bytes ≡ get_or bytes (at + 3) 0 ∷ drop (suc (at + 3)) bytes =
    drop-cons bytes (at + 3) 0 (omega arith) in
    let one : suc at ≡ at + 1 = omega arith in
    let two : suc (at + 1) ≡ at + 2 = omega arith in
    let three : suc (at + 2) ≡ at + 3 = omega arith in
    let four : suc (at + 3) ≡ at + 4 = omega arith in
    ap rows_of
    (first
    ∙ ap (λ (l : List ℕ). get_or bytes at 0 ∷ l) (ap (λ (i : ℕ). drop i bytes) one
    ∙ second
    ∙ ap (λ (l : List ℕ). get_or bytes (at + 1) 0 ∷ l) (ap (λ (i : ℕ). drop i bytes) two
    ∙ third
    ∙ ap (λ (l : List ℕ). get_or bytes (at + 2) 0 ∷ l) (ap (λ (i : ℕ). drop i bytes) three
    ∙ fourth
    ∙ ap (λ (l : List ℕ). get_or bytes (at + 3) 0 ∷ l) (ap (λ (i : ℕ). drop i bytes) four)))))

-- behind as many steps stand the rows of the bytes behind them
pub rows_behind : (step : ℕ) (bytes : List ℕ) → drop step (rows_of bytes) ≡ rows_of (drop (4 * step) bytes)
rows_behind zero bytes = refl
rows_behind (suc step) bytes =
    let four : suc (suc (suc (suc (4 * step)))) ≡ 4 * suc step = omega arith in
    go bytes (rows_behind step) ∙ ap (λ (k : ℕ). rows_of (drop k bytes)) four
  where
    go : (bytes : List ℕ) → ((rest : List ℕ) → drop step (rows_of rest) ≡ rows_of (drop (4 * step) rest))
        → drop (suc step) (rows_of bytes) ≡ rows_of (drop (suc (suc (suc (suc (4 * step))))) bytes)
    go (a ∷ b ∷ c ∷ d ∷ rest) later = later rest
    go (a ∷ b ∷ c ∷ []) later = refl
    go (a ∷ b ∷ []) later = refl
    go (a ∷ []) later = refl
    go [] later = refl

pub row_at_lem : (bytes : List ℕ) (step : ℕ) (other : Row) → 4 * step + 4 ≤ length bytes
    → get_or (rows_of bytes) step other ≡ row_at bytes (4 * step)
row_at_lem bytes step other room =
    ap (λ (i : ℕ). get_or (rows_of bytes) i other) (sym (add-zero step))
    ∙ sym (get_or-drop step (rows_of bytes) 0 other)
    ∙ ap (λ (l : List Row). get_or l 0 other) (rows_behind step bytes ∙ row_here bytes (4 * step) room)
