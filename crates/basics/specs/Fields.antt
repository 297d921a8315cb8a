-- Fields that stand one behind the other, each a big-endian number of one, two or four bytes. A list of widths is such a
-- layout whole: by it numbers are read, and by it they are written.
use Rattle.std.specs.Prelude.{Bool, true, ◌&&◌, List, [], ◌∷◌, ◌++◌, ℕ, ◌+◌, ◌^◌, ltb, get_or}
use Rattle.basics.specs.Bytes.{two_at, four_at, two_bytes, four_bytes}

pub data Width : Type 0 where
  one : Width
  two : Width
  four : Width

abbrev pub bytes_in : Width → ℕ
bytes_in one = 1
bytes_in two = 2
bytes_in four = 4

abbrev pub number_at : Width → List ℕ → ℕ → ℕ
number_at one bytes at = get_or bytes at 0
number_at two bytes at = two_at bytes at
number_at four bytes at = four_at bytes at

abbrev pub bytes_of : Width → ℕ → List ℕ
bytes_of one v = v ∷ []
bytes_of two v = two_bytes v
bytes_of four v = four_bytes v

-- the bytes of all fields together
abbrev pub size_of : List Width → ℕ
size_of [] = 0
size_of (width ∷ layout) = bytes_in width + size_of layout

-- each number fits into the bytes of its field
abbrev pub fields_fit : List Width → List ℕ → Bool
fields_fit [] values = true
fields_fit (width ∷ layout) [] = true
fields_fit (width ∷ layout) (v ∷ values) = ltb v (256 ^ bytes_in width) && fields_fit layout values

abbrev pub fields_at : List Width → List ℕ → ℕ → List ℕ
fields_at [] bytes at = []
fields_at (width ∷ layout) bytes at = number_at width bytes at ∷ fields_at layout bytes (at + bytes_in width)

abbrev pub field_bytes : List Width → List ℕ → List ℕ
field_bytes [] values = []
field_bytes (width ∷ layout) [] = []
field_bytes (width ∷ layout) (v ∷ values) = bytes_of width v ++ field_bytes layout values
