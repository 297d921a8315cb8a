-- The switches of a capture (02, e): the steps at which the sent K1 differs from the step before, step 0 against 00, in
-- rising order.
use Rattle.std.specs.Prelude.{if◌then◌else◌, ◌≡◌, Bool, not, List, [], ◌∷◌, ◌++◌, map, ℕ, zero, suc, ◌<◌, eqb, length, get_or}
use Rattle.basics.specs.Capture.{Row, rows_of}

infix 15 below◌such_that◌
-- [ i | i < k, test i ]
unfoldable pub below◌such_that◌ : ℕ → (ℕ → Bool) → List ℕ
below◌such_that◌ zero test = []
below◌such_that◌ (suc k) test = (below k such_that test) ++ (if test k then k ∷ [] else [])

-- the sent K1 of each step
unfoldable pub sent_in : List ℕ → List ℕ
sent_in bytes = map (λ (r : Row). r.sent_k1) (rows_of bytes)

-- the sent K1 of a step differs from that of the step before; before step 0 stands 00
unfoldable pub changed : List ℕ → ℕ → Bool
changed sent step = not (eqb (get_or sent step 0) (get_or (0x00 ∷ sent) step 0))

abbrev pub changes : List ℕ → List ℕ
changes sent = below (length sent) such_that (changed sent)

-- a number stands in a list, at some place
abbrev pub Stands : ℕ → List ℕ → Type 0
Stands x list = (i : ℕ) × (i < length list) × (get_or list i 0 ≡ x)
