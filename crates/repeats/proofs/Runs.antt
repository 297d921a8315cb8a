-- Bytes and rows: a run of bytes is a run of rows, as long as its bytes are.
use mathlib.Core.Path.{◌≡◌, refl, sym, ap, subst, ◌∙◌}
use mathlib.Core.Bool.{Bool, true, false, ◌&&◌, and-eq-true_iff, false≢true}
use mathlib.Core.List.{List, [], ◌∷◌}
use Prim.Native.Nat.{ℕ, zero, suc, ◌+◌, ◌-◌, ◌*◌, ◌≤◌, ◌<◌}
use native.Mathlib.Omega.{arith}
use lib.Dec.{ltb, eqb}
use lib.ListN.{length, get_or, take, drop, length-drop}
use lib.Seq.{get_or-drop}
use borrow.Author.Tests.{eqb-true, eq-eqb, le-ltb}
use Rattle.std.proofs.lemmas.Slice.{between_to_end}
use Rattle.basics.specs.Capture.{Row, rows_of, row_at}
use Rattle.basics.proofs.Rows.{rows_long}
use Rattle.repeats.specs.Repeats.{back, same_row, run_of, repeated, leading, rows_in}
use Rattle.repeats.proofs.Pieces.{rows_four}

-- rows are the same exactly if they are equal
pub same_is : (p q : Row) → same_row p q ≡ true → p ≡ q
same_is p q h =
    let three =
    (and-eq-true_iff (eqb p.k1 q.k1 && eqb p.k2 q.k2 && eqb p.sent_k1 q.sent_k1) (eqb p.sent_k2 q.sent_k2)).0 h in
    let two = (and-eq-true_iff (eqb p.k1 q.k1 && eqb p.k2 q.k2) (eqb p.sent_k1 q.sent_k1)).0 three.0 in
    let one = (and-eq-true_iff (eqb p.k1 q.k1) (eqb p.k2 q.k2)).0 two.0 in
    let first = eqb-true p.k1 q.k1 one.0 in
    let second = eqb-true p.k2 q.k2 one.1 in
    let third = eqb-true p.sent_k1 q.sent_k1 two.1 in
    let fourth = eqb-true p.sent_k2 q.sent_k2 three.1 in
    λ i. record { k1 = first i; k2 = second i; sent_k1 = third i; sent_k2 = fourth i }

is_same : (p : Row) → same_row p p ≡ true
is_same p =
    rw (eq-eqb p.k1 p.k1 refl, eq-eqb p.k2 p.k2 refl, eq-eqb p.sent_k1 p.sent_k1 refl, eq-eqb p.sent_k2 p.sent_k2 refl)

module _ (r : Row) where
  run_few : (rows : List Row) → run_of r rows ≤ length rows
  run_few [] = omega arith
  run_few (q ∷ rows) = go (same_row r q) refl (run_few rows)
    where
      go : (t : Bool) → same_row r q ≡ t → run_of r rows ≤ length rows → run_of r (q ∷ rows) ≤ suc (length rows)
      go true e few = rw e (omega arith)
      go false e few = rw e (omega arith)

  -- the rows of a run are the row; and the next one is not
  run_same : (rows : List Row) (j : ℕ) (other : Row) → j < run_of r rows → get_or rows j other ≡ r
  run_same [] j other few = absurd (omega arith)
  run_same (q ∷ rows) j other few = go (same_row r q) refl j few (run_same rows)
    where
      go : (t : Bool) → same_row r q ≡ t → (j : ℕ) → j < run_of r (q ∷ rows)
          → ((j : ℕ) (other : Row) → j < run_of r rows → get_or rows j other ≡ r) → get_or (q ∷ rows) j other ≡ r
      go true e zero few later = sym (same_is r q e)
      go true e (suc j) few later = let less : suc j < suc (run_of r rows) = rw e at few in later j other (omega arith)
      go false e j few later = let none : j < 0 = rw e at few in absurd (omega arith)

  run_stops : (rows : List Row) (other : Row) → run_of r rows < length rows → get_or rows (run_of r rows) other ≡ r → ⊥
  run_stops [] other few = absurd (omega arith)
  run_stops (q ∷ rows) other few = go (same_row r q) refl few (run_stops rows other)
    where
      go : (t : Bool) → same_row r q ≡ t → run_of r (q ∷ rows) < suc (length rows)
          → (run_of r rows < length rows → get_or rows (run_of r rows) other ≡ r → ⊥)
          → get_or (q ∷ rows) (run_of r (q ∷ rows)) other ≡ r → ⊥
      go true e few later is =
          let less : suc (run_of r rows) < suc (length rows) = rw e at few in
          let there : get_or rows (run_of r rows) other ≡ r = rw e at is in
          later (omega arith) there
      go false e few later is =
          let there : q ≡ r = rw e at is in
          false≢true (sym e ∙ ap (same_row r) there ∙ is_same r)

-- the row that stands at a place, as a piece of bytes
four_taken : (bytes : List ℕ) → 4 ≤ length bytes
    → take 4 bytes ≡ get_or bytes 0 0 ∷ get_or bytes 1 0 ∷ get_or bytes 2 0 ∷ get_or bytes 3 0 ∷ []
four_taken (a ∷ b ∷ c ∷ d ∷ rest) room = refl
four_taken (a ∷ b ∷ c ∷ []) room = absurd (omega arith)
four_taken (a ∷ b ∷ []) room = absurd (omega arith)
four_taken (a ∷ []) room = absurd (omega arith)
four_taken [] room = absurd (omega arith)

four_same : (p q r s : Bool) → (p && (q && (r && (s && true)))) ≡ (p && q && r && s)
four_same false q r s = refl
four_same true false r s = refl
four_same true true false s = refl
four_same true true true false = refl
four_same true true true true = refl

-- rows that are alike as bytes are the same
pub leading_run : (r : Row) (bytes : List ℕ) → leading (r.k1 ∷ r.k2 ∷ r.sent_k1 ∷ r.sent_k2 ∷ []) (rows_in bytes) ≡ run_of r (rows_of bytes)
leading_run r (a ∷ b ∷ c ∷ d ∷ rest) =
    rw (rows_four a b c d rest, four_same (eqb r.k1 a) (eqb r.k2 b) (eqb r.sent_k1 c) (eqb r.sent_k2 d), leading_run r rest) refl
leading_run r (a ∷ b ∷ c ∷ []) = refl
leading_run r (a ∷ b ∷ []) = refl
leading_run r (a ∷ []) = refl
leading_run r [] = refl

module _ (bytes : List ℕ) where
  -- what the function answers
  pub repeated_run : (at : ℕ) → back ≤ at → {row : List ℕ} → at ≤ length bytes
      → row ≡ take 4 (take (length bytes - (at - back)) (drop (at - back) bytes))
      → leading row (rows_in (take (length bytes - at) (drop at bytes))) ≡ repeated bytes at
  repeated_run at first {row} inside is =
      let here : at - back + 0 ≡ at - back = omega arith in
      let long : length (drop (at - back) bytes) ≡ length bytes - (at - back) = length-drop (at - back) bytes in
      let four : row ≡ get_or bytes (at - back) 0 ∷ get_or bytes (at - back + 1) 0 ∷ get_or bytes (at - back + 2) 0 ∷ get_or bytes (at - back + 3) 0 ∷ [] =
      is
      ∙ ap (take 4) (between_to_end bytes (at - back) (length bytes) (omega arith))
      ∙ four_taken (drop (at - back) bytes) (omega arith)
      ∙ rw (
        get_or-drop (at - back) bytes 0 0,
        get_or-drop (at - back) bytes 1 0,
        get_or-drop (at - back) bytes 2 0,
        get_or-drop (at - back) bytes 3 0,
        here,
      ) refl in
      rw (le-ltb at back first)
      (ap (λ (l : List ℕ). leading row (rows_in l)) (between_to_end bytes at (length bytes) (omega arith))
      ∙ ap (λ (r : List ℕ). leading r (rows_in (drop at bytes))) four
      ∙ leading_run (row_at bytes (at - back)) (drop at bytes))

  -- they are all there
  pub repeated_few : (at : ℕ) → 4 * repeated bytes at ≤ length bytes - at
  repeated_few at = go (ltb at back) refl
    where
      go : (t : Bool) → ltb at back ≡ t → 4 * repeated bytes at ≤ length bytes - at
      go true e = rw e (omega arith)
      go false e =
          let few = run_few (row_at bytes (at - back)) (rows_of (drop at bytes)) in
          let long = rows_long (drop at bytes) in
          let rest : length (drop at bytes) ≡ length bytes - at = length-drop at bytes in
          rw e (omega arith)

  module _ (at : ℕ) (first : 4 ≤ at) where
    abbrev rows : List Row
    rows = rows_of (drop at bytes)

    abbrev before : Row
    before = row_at bytes (at - 4)

    -- it is the row before the place that they are compared with
    pub repeated_is : repeated bytes at ≡ run_of before rows
    repeated_is =
        let compared : row_at bytes (at - back) ≡ before = refl in
        rw (le-ltb at back first) (ap (λ (r : Row). run_of r rows) compared)

    pub repeated_same : (j : ℕ) (other : Row) → j < repeated bytes at → get_or rows j other ≡ before
    repeated_same j other few = run_same before rows j other (rw repeated_is at few)

    pub repeated_stops : (other : Row) → repeated bytes at < length rows → get_or rows (repeated bytes at) other ≡ before → ⊥
    repeated_stops other few is =
        run_stops before rows other (rw repeated_is at few)
        (subst (λ (k : ℕ). get_or rows k other ≡ before) repeated_is is)
