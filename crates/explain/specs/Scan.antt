-- A scan: rows are taken in one by one, until nothing is left that explains them.
use Rattle.std.specs.Prelude.{if◌then◌else◌, Bool, List, [], ◌∷◌, ℕ, suc}

-- all rows, as many as this, or the number of the first that leaves nothing
pub data Scanned : Type 0 where
  all first : ℕ → Scanned

module _ {D R : Type 0} (next : D → R → D) (live : D → Bool) where
  -- from row i on
  abbrev pub scan_from : ℕ → D → List R → Scanned
  scan_from i d [] = all i
  scan_from i d (r ∷ rows) = if live (next d r) then scan_from (suc i) (next d r) rows else first i
