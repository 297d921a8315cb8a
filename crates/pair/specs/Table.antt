-- The table of K1 values (02, j): a number for each K1, of what a list of rows says of it.
use Rattle.std.specs.Prelude.{if◌then◌else◌, Bool, not, ◌&&◌, List, [], ◌∷◌, ℕ, zero, suc, ◌+◌, ◌*◌, ◌/◌, ◌%◌, leb, eqb}
use Rattle.basics.specs.First.{◌when◌, first_or}
use Rattle.basics.specs.Table.{values}
use Rattle.pair.specs.Request.{Row, listed, carries, class_of, rank_in}
use Rattle.pair.specs.Marks.{code_of, channel_of, mark_told}
use Rattle.pair.specs.declared.Value as value

-- the K1 is usable in a group of n sections
abbrev pub usable_for : List Row → ℕ → ℕ → Bool
usable_for rows k1 n = carries rows n (code_of k1) (channel_of k1)

-- its rank
abbrev pub rank_for : List Row → ℕ → ℕ
rank_for rows k1 = rank_in rows (class_of (channel_of k1)) (code_of k1)

-- the least of the n from i on, as many as k, for which a test holds, and the greatest of those from 1 to k; 0 where it
-- holds for none
abbrev pub least_from : ℕ → ℕ → (ℕ → Bool) → ℕ
least_from i zero test = 0
least_from i (suc k) test = if test i then i else least_from (suc i) k test

abbrev pub greatest_to : ℕ → (ℕ → Bool) → ℕ
greatest_to zero test = 0
greatest_to (suc k) test = if test (suc k) then suc k else greatest_to k test

-- the least and the greatest n, of 1 to 14, for which the K1 is usable
abbrev pub least_of : List Row → ℕ → ℕ
least_of rows k1 = least_from 1 14 (usable_for rows k1)

abbrev pub greatest_of : List Row → ℕ → ℕ
greatest_of rows k1 = greatest_to 14 (usable_for rows k1)

-- the mark of one that no n makes usable: 4 if some row has its code, else 3
abbrev pub mark_for : List Row → ℕ → ℕ
mark_for rows k1 = if listed rows (code_of k1) then 4 else 3

-- the numbers that are held of a K1
pub record Value : Type 0 where
  pub rank : ℕ
  pub least : ℕ
  pub greatest : ℕ
  pub mark : ℕ

abbrev pub value_told : value.Value → Value
value_told v = record { rank = v.rank; least = v.least; greatest = v.greatest; mark = mark_told v.mark }

-- what is held of a K1: its rank and the least and the greatest n for which it is usable, or its mark; zeros elsewhere
abbrev pub value_of : List Row → ℕ → Value
value_of rows k1 =
    if eqb (least_of rows k1) 0 then record { rank = 0; least = 0; greatest = 0; mark = mark_for rows k1 }
    else record { rank = rank_for rows k1; least = least_of rows k1; greatest = greatest_of rows k1; mark = 0 }

-- how a number is put together, by hexadecimal digits, and taken apart
abbrev pub number_of : Value → ℕ
number_of v = v.rank * 4096 + v.least * 256 + v.greatest * 16 + v.mark

abbrev pub value_in : ℕ → Value
value_in number =
    record {
      rank = number / 4096;
      least = number / 256 % 16;
      greatest = number / 16 % 16;
      mark = number % 16;
    }

-- the number of a K1, and the table of all 256
unfoldable pub number_for : List Row → ℕ → ℕ
number_for rows k1 = number_of (value_of rows k1)

unfoldable pub table_of : List Row → List ℕ
table_of rows = values (number_for rows) 256

-- what is read of a K1 in a group of n sections: that it is usable, with its rank, or the mark 3 or 4
pub data Reading : Type 0 where
  with_rank with_mark : ℕ → Reading

-- by the list of rows: its code, then its channel
abbrev pub read_by : List Row → ℕ → ℕ → Reading
read_by rows n k1 =
    first_or (with_rank (rank_for rows k1))
    ((with_mark 3 when not (listed rows (code_of k1))) ∷ (with_mark 4 when not (usable_for rows k1 n)) ∷ [])

-- by a number of the table: mark 3 is for a code in no row, and n is in least..greatest
abbrev pub listed_in : ℕ → Bool
listed_in number = not (eqb (value_in number).mark 3)

abbrev pub usable_in : ℕ → ℕ → Bool
usable_in number n = leb (value_in number).least n && leb n (value_in number).greatest

abbrev pub read_in : ℕ → ℕ → Reading
read_in number n =
    first_or (with_rank (value_in number).rank)
    ((with_mark 3 when not (listed_in number)) ∷ (with_mark 4 when not (usable_in number n)) ∷ [])
