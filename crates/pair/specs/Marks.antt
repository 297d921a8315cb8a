-- The parts of the two bytes, and what a pair is checked for, in its order (01, 'The byte pair'; 02, c).
use Rattle.std.specs.Prelude.{if◌then◌else◌, Bool, true, false, not, ◌&&◌, ◌||◌, List, [], ◌∷◌, ℕ, ◌/◌, ◌%◌, ltb, leb, eqb}
use Rattle.std.specs.Prelude.{Option, Some, None}
use Rattle.basics.specs.First.{CheckFor, ◌when◌, first_or}
use Rattle.pair.specs.Request.{requests, listed, carries}
use Rattle.pair.specs.declared.mark.Mark.{Mark}
use Rattle.pair.specs.declared.mark.Mark.TheVariants as fault

-- K1: upper four bits request code, lower four channel
abbrev pub code_of : ℕ → ℕ
code_of k1 = k1 / 16

abbrev pub channel_of : ℕ → ℕ
channel_of k1 = k1 % 16

-- K2: upper four bits bridged channel, then bit 5, then three line bits
abbrev pub bridged_of : ℕ → ℕ
bridged_of k2 = k2 / 16

abbrev pub bit5 : ℕ → ℕ
bit5 k2 = k2 / 8 % 2

abbrev pub line_bits : ℕ → ℕ
line_bits k2 = k2 % 8

-- the number of a mark, and the mark that a number is of; 0 is the number of none
abbrev pub mark_number : Mark → ℕ
mark_number fault.Architecture = 1
mark_number fault.LineBits = 2
mark_number fault.Code = 3
mark_number fault.Channel = 4
mark_number fault.Bridged = 5

abbrev pub mark_with : ℕ → Mark
mark_with m =
    if eqb m 1 then fault.Architecture else
    if eqb m 2 then fault.LineBits else
    if eqb m 3 then fault.Code else
    if eqb m 4 then fault.Channel else
    fault.Bridged

abbrev pub mark_told : Option Mark → ℕ
mark_told None = 0
mark_told (Some m) = mark_number m

abbrev pub mark_case : ℕ → Option Mark
mark_case m = if eqb m 0 then None else Some (mark_with m)

-- what is found in a pair: nothing, an alarm signal, or a fault with its mark
pub data Finding : Type 0 where
  nothing alarmed : Finding
  marked : ℕ → Finding

-- in this order, once K1 is read: whether a row has its code, and whether the code carries its channel
abbrev pub checks_with : Bool → Bool → ℕ → ℕ → List (CheckFor Finding)
checks_with code_listed channel_carried n k2 =
    -- bit 5 is 0
    (marked 1 when eqb (bit5 k2) 0)
    -- line bits 111: the multiplex section carries an alarm signal
    ∷ (alarmed when eqb (line_bits k2) 0b111)
    -- other line bits, neither 000 nor 110
    ∷ (marked 2 when not (eqb (line_bits k2) 0b000) && not (eqb (line_bits k2) 0b110))
    -- code
    ∷ (marked 3 when not code_listed)
    -- K1 channel
    ∷ (marked 4 when not channel_carried)
    -- bridged channel above n
    ∷ (marked 5 when ltb n (bridged_of k2))
    ∷ []

abbrev pub pair_checks : ℕ → ℕ → ℕ → List (CheckFor Finding)
pair_checks n k1 k2 =
    checks_with (listed requests (code_of k1)) (carries requests n (code_of k1) (channel_of k1)) n k2

-- the first that applies is the finding
unfoldable pub finding : ℕ → ℕ → ℕ → Finding
finding n k1 k2 = first_or nothing (pair_checks n k1 k2)

abbrev pub is_nothing : Finding → Bool
is_nothing nothing = true
is_nothing alarmed = false
is_nothing (marked m) = false

abbrev pub is_alarm : Finding → Bool
is_alarm nothing = false
is_alarm alarmed = true
is_alarm (marked m) = false

abbrev pub mark_in : Finding → ℕ
mark_in nothing = 0
mark_in alarmed = 0
mark_in (marked m) = m

-- the pair is usable; it is an alarm; its mark, which neither has
unfoldable pub usable : ℕ → ℕ → ℕ → Bool
usable n k1 k2 = is_nothing (finding n k1 k2)

unfoldable pub alarm : ℕ → ℕ → ℕ → Bool
alarm n k1 k2 = is_alarm (finding n k1 k2)

unfoldable pub mark : ℕ → ℕ → ℕ → ℕ
mark n k1 k2 = mark_in (finding n k1 k2)

-- nothing is found in the K2 (Theorems.usable_apart): bit 5 is 1, the line bits are 000 or 110, and the bridged channel is
-- not above n
abbrev pub second_usable : ℕ → ℕ → Bool
second_usable n k2 =
    not (eqb (bit5 k2) 0) && (eqb (line_bits k2) 0b000 || eqb (line_bits k2) 0b110) && leb (bridged_of k2) n

-- bit 5 is 1 and the line bits are 111: nothing else of a pair makes it an alarm (Theorems.alarm_alone)
abbrev pub alarm_in : ℕ → Bool
alarm_in k2 = eqb (k2 % 16) 0b1111
