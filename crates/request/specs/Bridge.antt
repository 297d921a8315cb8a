-- The bridge and the selector (01, 'One step', rules 6 and 7).
use Rattle.std.specs.Prelude.{if◌then◌else◌, Bool, ◌||◌, ℕ, eqb}

-- bridged is the channel of the accepted K1, while we send that channel too or keep the bridge
abbrev pub bridge : ℕ → ℕ → Bool → ℕ
bridge accepted sent kept = if eqb accepted sent || kept then accepted else 0

-- the channel that we send is selected once the far end has bridged it
abbrev pub selector : ℕ → ℕ → ℕ
selector sent bridged = if eqb bridged sent then sent else 0
