-- The table of requests (01, 'The byte pair'; G.841, Tables 7-1 and 7-2).
use Rattle.std.specs.Prelude.{if◌then◌else◌, Bool, true, false, ◌&&◌, ◌||◌, List, [], ◌∷◌, ℕ, leb, eqb}

-- the request codes, the upper four bits of K1
abbrev pub lockout_code : ℕ
lockout_code = 0b1111

abbrev pub forced_code : ℕ
forced_code = 0b1110

abbrev pub fail_high_code : ℕ
fail_high_code = 0b1101

abbrev pub fail_low_code : ℕ
fail_low_code = 0b1100

abbrev pub degrade_high_code : ℕ
degrade_high_code = 0b1011

abbrev pub degrade_low_code : ℕ
degrade_low_code = 0b1010

abbrev pub manual_code : ℕ
manual_code = 0b1000

abbrev pub wait_code : ℕ
wait_code = 0b0110

abbrev pub reverse_code : ℕ
reverse_code = 0b0010

abbrev pub nothing_code : ℕ
nothing_code = 0b0000

-- the channels that a request may carry: 0; 1..n; 0..n
pub data Channels : Type 0 where
  zero_only sections zero_and_sections : Channels

pub record Row : Type 0 where
  pub code : ℕ
  pub channels : Channels
  pub rank : ℕ

abbrev pub row : ℕ → Channels → ℕ → Row
row code channels rank = record { code = code; channels = channels; rank = rank }

abbrev pub requests : List Row
requests =
    -- lockout of protection, LO
    row lockout_code zero_only 10
    -- signal fail on protection, SF0
    ∷ row fail_high_code zero_only 9
    -- forced switch, FS
    ∷ row forced_code sections 8
    -- signal fail, high
    ∷ row fail_high_code sections 7
    -- signal fail, low
    ∷ row fail_low_code sections 6
    -- signal degrade, high
    ∷ row degrade_high_code zero_and_sections 5
    -- signal degrade, low
    ∷ row degrade_low_code sections 4
    -- manual switch, MS
    ∷ row manual_code sections 3
    -- wait to restore, WTR
    ∷ row wait_code sections 2
    -- reverse request, RR
    ∷ row reverse_code zero_and_sections 0
    -- no request, NR
    ∷ row nothing_code zero_only 0
    ∷ []

-- the channel c is among the channels, in a group of n sections
abbrev pub among : Channels → ℕ → ℕ → Bool
among zero_only n c = eqb c 0
among sections n c = leb 1 c && leb c n
among zero_and_sections n c = leb c n

-- some row has the code
unfoldable pub listed : List Row → ℕ → Bool
listed [] code = false
listed (r ∷ rest) code = eqb code r.code || listed rest code

-- the request stands in the row: the row has its code, and its channel among the channels
abbrev pub stands : Row → ℕ → ℕ → ℕ → Bool
stands r n code c = eqb code r.code && among r.channels n c

-- the request stands in some row
unfoldable pub carries : List Row → ℕ → ℕ → ℕ → Bool
carries [] n code c = false
carries (r ∷ rest) n code c = stands r n code c || carries rest n code c

-- the class of a channel, on which the rank depends: channel 0, or a section
pub data Class : Type 0 where
  channel_0 a_section : Class

abbrev pub class_of : ℕ → Class
class_of c = if eqb c 0 then channel_0 else a_section

abbrev pub includes : Channels → Class → Bool
includes zero_only channel_0 = true
includes zero_only a_section = false
includes sections channel_0 = false
includes sections a_section = true
includes zero_and_sections channel_0 = true
includes zero_and_sections a_section = true

-- the rank of the row that has the code and includes the class; 0 where there is none
unfoldable pub rank_in : List Row → Class → ℕ → ℕ
rank_in [] class code = 0
rank_in (r ∷ rest) class code =
    if eqb code r.code && includes r.channels class then r.rank else rank_in rest class code

unfoldable pub rank_of : ℕ → ℕ → ℕ
rank_of code c = rank_in requests (class_of c) code
