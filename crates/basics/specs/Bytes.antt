-- Numbers of two and of four bytes, big-endian. A byte past the end of a list reads as 0.
use Rattle.std.specs.Prelude.{List, [], ◌∷◌, ◌++◌, ℕ, zero, suc, ◌+◌, ◌*◌, ◌/◌, ◌%◌, get_or}

unfoldable pub two_at : List ℕ → ℕ → ℕ
two_at bytes at = get_or bytes at 0 * 256 + get_or bytes (at + 1) 0

unfoldable pub four_at : List ℕ → ℕ → ℕ
four_at bytes at = two_at bytes at * 65536 + two_at bytes (at + 2)

abbrev pub two_bytes : ℕ → List ℕ
two_bytes v = v / 256 ∷ v % 256 ∷ []

abbrev pub four_bytes : ℕ → List ℕ
four_bytes v = two_bytes (v / 65536) ++ two_bytes (v % 65536)

-- as many bytes from a place on
abbrev pub bytes_at : ℕ → List ℕ → ℕ → List ℕ
bytes_at zero bytes at = []
bytes_at (suc size) bytes at = get_or bytes at 0 ∷ bytes_at size bytes (at + 1)
