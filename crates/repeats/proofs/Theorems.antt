-- The front door: what is proved of repeated rows, each theorem in full with the line that cites its proof.
use mathlib.Core.Path.{◌≡◌, refl}
use mathlib.Core.List.{List}
use Prim.Native.Nat.{ℕ, ◌-◌, ◌*◌, ◌≤◌, ◌<◌}
use lib.ListN.{length, get_or, drop}
use borrow.Author.Tests.{lt-ltb}
use Rattle.basics.specs.Capture.{Row, rows_of, row_at}
use Rattle.basics.proofs.One.{OneAnswer, one_value}
use Rattle.repeats.specs.Repeats.{back, repeated}
use Rattle.repeats.proofs.Runs.{repeated_few, repeated_same, repeated_stops}
use Rattle.repeats.proofs.repeated.Kinds as repeated-kinds
use Rattle.repeats.proofs.repeated.Reads as repeated-fn
use Rattle.repeats.proofs.repeated.Statement as repeated-statement
use Rattle.repeats.proofs.repeated.Met as repeated-met

-- The public function answers what its definition says, for every input. (`statement` is the contract, as the checker reads it
-- off the source; it asks nothing of the caller.)
repeated_right : {M : Type 1} → repeated-statement.statement M
repeated_right = repeated-met.met

-- Two answers that the promise allows are equal. (`Post` is the function's `ensures`.)
repeated_unique : OneAnswer 1 repeated-kinds.ps repeated-kinds.r repeated-fn.Post
repeated_unique κs args x y s t p q = one_value p q

-- What the definition means. As many rows from a place on, one after the other, equal the row that stands before the place; they
-- are all there; and the next one, if there is one, does not.
rows_right : (bytes : List ℕ) (at : ℕ) → 4 ≤ at → (j : ℕ) (other : Row) → j < repeated bytes at
    → get_or (rows_of (drop at bytes)) j other ≡ row_at bytes (at - 4)
rows_right = repeated_same

rows_there : (bytes : List ℕ) (at : ℕ) → 4 * repeated bytes at ≤ length bytes - at
rows_there = repeated_few

rows_complete : (bytes : List ℕ) (at : ℕ) → 4 ≤ at → (other : Row)
    → repeated bytes at < length (rows_of (drop at bytes))
    → get_or (rows_of (drop at bytes)) (repeated bytes at) other ≡ row_at bytes (at - 4) → ⊥
rows_complete = repeated_stops

-- Where no row stands before the place, none does.
rows_none : (bytes : List ℕ) (at : ℕ) → at < 4 → repeated bytes at ≡ 0
rows_none bytes at few = rw (lt-ltb at back few) refl
