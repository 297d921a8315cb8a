-- Decoding and encoding: the numbers that the paper has for each answer, and the answer that numbers call for.
use Rattle.std.specs.Prelude.{if◌then◌else◌, Bool, true, false, ◌&&◌, ℕ, ◌+◌, ◌*◌, leb, eqb}
use Rattle.std.specs.Prelude.{List, [], ◌∷◌, get_or, Result, Ok, Err}
use Rattle.basics.specs.First.{first_or}
use Rattle.basics.specs.Refusal.{refusal_number, refusal_with}
use Rattle.basics.specs.Settings.{sections_fit}
use Rattle.pair.specs.Request.{requests, carries}
use Rattle.pair.specs.Marks.{code_of, channel_of, bridged_of, line_bits}
use Rattle.pair.specs.Marks.{mark_number, mark_with}
use Rattle.pair.specs.Marks.{Finding, nothing, alarmed, marked, checks_with, finding}
use Rattle.pair.specs.Table.{listed_in, usable_in}
use Rattle.basics.specs.declared.refusal.Refusal.{Refusal}
use Rattle.pair.specs.declared.Pair.{Pair}
use Rattle.pair.specs.declared.Decoded.{Decoded}
use Rattle.pair.specs.declared.Decoded.TheVariants as decoded

-- what the decoder answers
pub record Decoding : Type 0 where
  pub refusal : ℕ
  pub mark : ℕ
  pub code : ℕ
  pub channel : ℕ
  pub bridged : ℕ
  pub remote : Bool
  pub alarm : Bool

-- the record of a usable pair
abbrev pub record_of : Pair → Decoding
record_of p =
    record {
      refusal = 0;
      mark = 0;
      code = p.code;
      channel = p.channel;
      bridged = p.bridged;
      remote = p.remote;
      alarm = false;
    }

-- a refusal, a mark, or the alarm, alone: zeros elsewhere
abbrev pub alone : ℕ → ℕ → Bool → Decoding
alone k m a =
    record { refusal = k; mark = m; code = 0; channel = 0; bridged = 0; remote = false; alarm = a }

-- the numbers that each answer stands for
abbrev pub decoded_told : Decoded → Decoding
decoded_told (decoded.Usable p) = record_of p
decoded_told (decoded.Marked m) = alone 0 (mark_number m) false
decoded_told decoded.Alarm = alone 0 0 true

abbrev pub decoding_told : Result Decoded Refusal → Decoding
decoding_told (Ok d) = decoded_told d
decoding_told (Err e) = alone (refusal_number e) 0 false

-- the answer that numbers call for
abbrev pub decoded_case : Decoding → Decoded
decoded_case d =
    if d.alarm then decoded.Alarm else
    if eqb d.mark 0 then
    decoded.Usable (record { code = d.code; channel = d.channel; bridged = d.bridged; remote = d.remote })
    else decoded.Marked (mark_with d.mark)

abbrev pub decoding_case : Decoding → Result Decoded Refusal
decoding_case d = if eqb d.refusal 0 then Ok (decoded_case d) else Err (refusal_with d.refusal)

-- what a usable pair holds
abbrev pub pair_of : ℕ → ℕ → Pair
pair_of k1 k2 =
    record { code = code_of k1; channel = channel_of k1; bridged = bridged_of k2; remote = eqb (line_bits k2) 0b110 }

-- what is answered to a finding
abbrev pub decoding_of : ℕ → ℕ → Finding → Decoding
decoding_of k1 k2 nothing = record_of (pair_of k1 k2)
decoding_of k1 k2 alarmed = alone 0 0 true
decoding_of k1 k2 (marked m) = alone 0 m false

-- n is looked at first
abbrev pub decoding_by : ℕ → ℕ → ℕ → Finding → Decoding
decoding_by n k1 k2 found = if sections_fit n then decoding_of k1 k2 found else alone 1 0 false

unfoldable pub decoding : ℕ → ℕ → ℕ → Decoding
decoding n k1 k2 = decoding_by n k1 k2 (finding n k1 k2)

-- the same, where K1 is read off a number of the table
abbrev pub found_in : ℕ → ℕ → ℕ → Finding
found_in number n k2 = first_or nothing (checks_with (listed_in number) (usable_in number n) n k2)

unfoldable pub decoding_looked : ℕ → ℕ → ℕ → ℕ → Decoding
decoding_looked number n k1 k2 = decoding_by n k1 k2 (found_in number n k2)

-- the line bits of a record: 110 for a remote defect
abbrev pub line_of : Bool → ℕ
line_of remote = if remote then 0b110 else 0b000

-- what the encoder answers
pub record Encoding : Type 0 where
  pub refusal : ℕ
  pub k1 : ℕ
  pub k2 : ℕ

abbrev pub encoding_told : Result (List ℕ) Refusal → Encoding
encoding_told (Ok bytes) = record { refusal = 0; k1 = get_or bytes 0 0; k2 = get_or bytes 1 0 }
encoding_told (Err e) = record { refusal = refusal_number e; k1 = 0; k2 = 0 }

abbrev pub encoding_case : Encoding → Result (List ℕ) Refusal
encoding_case e = if eqb e.refusal 0 then Ok (e.k1 ∷ e.k2 ∷ []) else Err (refusal_with e.refusal)

-- a usable pair decodes to the record (Theorems.encodable_right): its code carries its channel, and its bridged channel
-- is not above n
abbrev pub encodable : ℕ → Pair → Bool
encodable n p = carries requests n p.code p.channel && leb p.bridged n

unfoldable pub encoding : ℕ → Pair → Encoding
encoding n p =
    if sections_fit n then
    if encodable n p then
    record {
      refusal = 0;
      k1 = p.code * 16 + p.channel;
      k2 = p.bridged * 16 + 0b1000 + line_of p.remote;
    }
    else record { refusal = 10; k1 = 0; k2 = 0 }
    else record { refusal = 1; k1 = 0; k2 = 0 }
