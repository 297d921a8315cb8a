-- The last change in bytes.
use Rattle.std.specs.Prelude.{List, ◌∷◌, ℕ}
use Rattle.basics.specs.Bytes.{two_bytes}
use Rattle.switches.specs.LastChange.{Looked}

-- whether there is one, then its step
abbrev pub looked_bytes : Looked → List ℕ
looked_bytes l = l.found ∷ two_bytes l.step
