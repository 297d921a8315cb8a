-- The coder: what is answered of a K1 and of a pair, and what is taken to be encoded, in bytes.
use Rattle.std.specs.Prelude.{if◌then◌else◌, Bool, ◌&&◌, List, [], ◌∷◌, ℕ, ltb, eqb}
use Rattle.basics.specs.Settings.{sections_fit}
use Rattle.pair.specs.Table.{Value}
use Rattle.pair.specs.Coder.{Decoding, Encoding, encoding}

-- rank, least n, greatest n, mark
abbrev pub value_bytes : Value → List ℕ
value_bytes v = v.rank ∷ v.least ∷ v.greatest ∷ v.mark ∷ []

abbrev pub flag : Bool → ℕ
flag t = if t then 1 else 0

-- mark, code, channel, bridged channel, remote-defect flag, alarm flag
abbrev pub decoded_bytes : Decoding → List ℕ
decoded_bytes d = d.mark ∷ d.code ∷ d.channel ∷ d.bridged ∷ flag d.remote ∷ flag d.alarm ∷ []

abbrev pub encoded_bytes : Encoding → List ℕ
encoded_bytes e = e.k1 ∷ e.k2 ∷ []

-- a flag above 1 is none that a usable pair decodes to: refusal 10, behind refusal 1
unfoldable pub encoding_bytes : ℕ → ℕ → ℕ → ℕ → ℕ → Encoding
encoding_bytes n code channel bridged remote =
    if sections_fit n && ltb 1 remote then record { refusal = 10; k1 = 0; k2 = 0 }
    else encoding n (record { code = code; channel = channel; bridged = bridged; remote = eqb remote 1 })
