-- Laws of the bridge.
use mathlib.Core.Bool.{Bool, true, false, ◌||◌}
use Prim.Native.Nat.{ℕ, ◌≤◌}
use native.Mathlib.Omega.{arith}
use lib.Dec.{eqb}
use Rattle.std.specs.Prelude.{if◌then◌else◌}
use Rattle.request.specs.Bridge.{bridge}

-- what is bridged is the accepted channel or 0
pub bridge_within : (accepted sent : ℕ) (kept : Bool) → bridge accepted sent kept ≤ accepted
bridge_within accepted sent kept = go (eqb accepted sent || kept)
  where
    go : (t : Bool) → (if t then accepted else 0) ≤ accepted
    go true = omega arith
    go false = omega arith
