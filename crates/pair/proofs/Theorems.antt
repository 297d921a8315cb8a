-- The front door: what is proved of the coder, each theorem in full with the line that cites its proof.
use mathlib.Core.Path.{◌≡◌, refl}
use mathlib.Core.Bool.{true, false, ◌&&◌}
use mathlib.Core.List.{List, [], ◌∷◌}
use mathlib.Core.Logic.{◌↔◌, ◌⊎◌}
use Prim.Native.Nat.{ℕ, ◌<◌, ◌≤◌}
use lib.ListN.{length, get_or}
use Rattle.std.specs.Prelude.{Ok}
use Rattle.basics.specs.First.{applies_at, answer_or, FirstAt}
use Rattle.basics.specs.Settings.{sections_fit}
use Rattle.basics.proofs.First.{first_given, first_shown, none_of}
use Rattle.basics.proofs.One.{OneAnswer, one_value, one_case}
use Rattle.pair.specs.Request.{forced_code, fail_high_code, Row, requests, stands, rank_of}
use Rattle.pair.specs.Marks.{nothing, pair_checks, finding, is_nothing, usable, alarm, mark, second_usable, alarm_in}
use Rattle.pair.specs.Table.{usable_for, value_in, number_for, table_of, read_by, read_in}
use Rattle.pair.specs.Coder.{decoding_case, decoding, decoding_looked, encoding_case, encodable, encoding}
use Rattle.pair.specs.declared.Pair.{Pair}
use Rattle.pair.specs.declared.Decoded.TheVariants as decoded
use Rattle.pair.proofs.Coding.{fit_found, pair_back, record_back, record_quiet, encodable_exact}
use Rattle.pair.proofs.Coding.{decoding_looked_lem, usable_test, alarm_test}
use Rattle.pair.proofs.Looking.{table_read, table_marked, table_usable, table_kinds}
use Rattle.pair.proofs.Marked.{value_one}
use Rattle.pair.proofs.Ranks.{row_at, row_rank, usable_row, fail_outranks, rank_most, rank_own}
use Rattle.pair.proofs.decode.Kinds as decode-kinds
use Rattle.pair.proofs.decode.Reads as decode
use Rattle.pair.proofs.decode.Statement as decode-statement
use Rattle.pair.proofs.decode.Met as decode-met
use Rattle.pair.proofs.encode.Kinds as encode-kinds
use Rattle.pair.proofs.encode.Reads as encode
use Rattle.pair.proofs.encode.Statement as encode-statement
use Rattle.pair.proofs.encode.Met as encode-met
use Rattle.pair.proofs.request.rank.Kinds as rank-kinds
use Rattle.pair.proofs.request.rank.Reads as rank
use Rattle.pair.proofs.request.rank.Statement as rank-statement
use Rattle.pair.proofs.request.rank.Met as rank-met
use Rattle.pair.proofs.table.value_of.Kinds as value-of-kinds
use Rattle.pair.proofs.table.value_of.Reads as value_of_lem
use Rattle.pair.proofs.table.value_of.Statement as value-of-statement
use Rattle.pair.proofs.table.value_of.Met as value-of-met
use Rattle.pair.proofs.table.numbers.Kinds as numbers-kinds
use Rattle.pair.proofs.table.numbers.Reads as numbers
use Rattle.pair.proofs.table.numbers.Statement as numbers-statement
use Rattle.pair.proofs.table.numbers.Met as numbers-met
use Rattle.pair.proofs.table.rank_in.Kinds as rank-in-kinds
use Rattle.pair.proofs.table.rank_in.Reads as rank-in
use Rattle.pair.proofs.table.rank_in.Statement as rank-in-statement
use Rattle.pair.proofs.table.rank_in.Met as rank-in-met
use Rattle.pair.proofs.table.usable_in.Kinds as usable-in-kinds
use Rattle.pair.proofs.table.usable_in.Reads as usable-in
use Rattle.pair.proofs.table.usable_in.Statement as usable-in-statement
use Rattle.pair.proofs.table.usable_in.Met as usable-in-met
use Rattle.pair.proofs.decode_looked.Kinds as decode-looked-kinds
use Rattle.pair.proofs.decode_looked.Reads as decode-looked
use Rattle.pair.proofs.decode_looked.Statement as decode-looked-statement
use Rattle.pair.proofs.decode_looked.Met as decode-looked-met
use Rattle.pair.proofs.mark.second_usable.Kinds as second-usable-kinds
use Rattle.pair.proofs.mark.second_usable.Reads as second-usable
use Rattle.pair.proofs.mark.second_usable.Statement as second-usable-statement
use Rattle.pair.proofs.mark.second_usable.Met as second-usable-met
use Rattle.pair.proofs.mark.alarm.Kinds as alarm-kinds
use Rattle.pair.proofs.mark.alarm.Reads as alarm-fn
use Rattle.pair.proofs.mark.alarm.Statement as alarm-statement
use Rattle.pair.proofs.mark.alarm.Met as alarm-met
use Rattle.pair.proofs.found.Kinds as found-kinds
use Rattle.pair.proofs.found.Reads as found-fn
use Rattle.pair.proofs.found.Statement as found-statement
use Rattle.pair.proofs.found.Met as found-met
use Rattle.pair.proofs.mark.Mark.number.Kinds as mark-number-kinds
use Rattle.pair.proofs.mark.Mark.number.Reads as mark-number-fn
use Rattle.pair.proofs.mark.Mark.number.Statement as mark-number-statement
use Rattle.pair.proofs.mark.Mark.number.Met as mark-number-met
use Rattle.pair.proofs.mark.Mark.number_or_0.Kinds as mark-number-or-0-kinds
use Rattle.pair.proofs.mark.Mark.number_or_0.Reads as mark-number-or-0-fn
use Rattle.pair.proofs.mark.Mark.number_or_0.Statement as mark-number-or-0-statement
use Rattle.pair.proofs.mark.Mark.number_or_0.Met as mark-number-or-0-met

-- Each public function answers what its definition says, for every input. (`statement` is the contract, as the checker
-- reads it off the source; it asks nothing of the caller. The last seven are open to the crates above alone.)
decode_right : {M : Type 1} → decode-statement.statement M
decode_right = decode-met.met

encode_right : {M : Type 1} → encode-statement.statement M
encode_right = encode-met.met

mark_number_right : {M : Type 1} → mark-number-statement.statement M
mark_number_right = mark-number-met.met

mark_number_or_0_right : {M : Type 1} → mark-number-or-0-statement.statement M
mark_number_or_0_right = mark-number-or-0-met.met

rank_right : {M : Type 1} → rank-statement.statement M
rank_right = rank-met.met

value_of_right : {M : Type 1} → value-of-statement.statement M
value_of_right = value-of-met.met

numbers_right : {M : Type 1} → numbers-statement.statement M
numbers_right = numbers-met.met

rank_in_right : {M : Type 1} → rank-in-statement.statement M
rank_in_right = rank-in-met.met

usable_in_right : {M : Type 1} → usable-in-statement.statement M
usable_in_right = usable-in-met.met

decode_looked_right : {M : Type 1} → decode-looked-statement.statement M
decode_looked_right = decode-looked-met.met

second_usable_right : {M : Type 1} → second-usable-statement.statement M
second_usable_right = second-usable-met.met

alarm_right : {M : Type 1} → alarm-statement.statement M
alarm_right = alarm-met.met

found_in_right : {M : Type 1} → found-statement.statement M
found_in_right = found-met.met

-- Decoding a usable pair and encoding the record gives the pair back.
pair_right : (n k1 k2 : ℕ) (p : Pair) → decoding_case (decoding n k1 k2) ≡ Ok (decoded.Usable p)
    → encoding_case (encoding n p) ≡ Ok (k1 ∷ k2 ∷ [])
pair_right = pair_back

-- Encoding a record that is not refused and decoding the bytes gives the record back.
record_right : (n : ℕ) (p : Pair) (k1 k2 : ℕ) → encoding_case (encoding n p) ≡ Ok (k1 ∷ k2 ∷ [])
    → decoding_case (decoding n k1 k2) ≡ Ok (decoded.Usable p)
record_right = record_back

-- An alarm is no record, so no record encodes to one.
record_no_alarm : (n : ℕ) (p : Pair) (k1 k2 : ℕ) → encoding_case (encoding n p) ≡ Ok (k1 ∷ k2 ∷ [])
    → alarm n k1 k2 ≡ false
record_no_alarm = record_quiet

-- A record is encoded exactly if some usable pair decodes to it; refusal 10 is for all others.
encodable_right : (n : ℕ) (p : Pair) → sections_fit n ≡ true
    → (encodable n p ≡ true)
    ↔ ((k1 : ℕ) × (k2 : ℕ) × (k1 < 256) × (k2 < 256) × (decoding_case (decoding n k1 k2) ≡ Ok (decoded.Usable p)))
encodable_right = encodable_exact

-- What is found in a pair is the answer of the first check, in the paper's order, that applies, so that a pair with
-- several faults has one mark, and an alarm is no mark and comes behind mark 1 alone; and what is found, if anything, is
-- found so. A pair is usable exactly if no check applies.
marks_right : (n k1 k2 i : ℕ) → FirstAt (pair_checks n k1 k2) i
    → finding n k1 k2 ≡ answer_or nothing (pair_checks n k1 k2) i
unfolding finding
marks_right n k1 k2 = first_given nothing (pair_checks n k1 k2)

marks_complete : (n k1 k2 : ℕ) → (finding n k1 k2 ≡ nothing → ⊥)
    → (i : ℕ)
    × FirstAt (pair_checks n k1 k2) i
    × (finding n k1 k2 ≡ answer_or nothing (pair_checks n k1 k2) i)
unfolding finding
marks_complete n k1 k2 = first_shown nothing (pair_checks n k1 k2)

usable_complete : (n k1 k2 : ℕ) → (usable n k1 k2 ≡ true) ↔ ((i : ℕ) → applies_at (pair_checks n k1 k2) i ≡ false)
unfolding usable finding
usable_complete n k1 k2 = none_of is_nothing nothing (pair_checks n k1 k2) refl refl

-- The decoder answers the mark and the alarm that are found; and an alarm is one by its K2 alone.
found_right : (n k1 k2 : ℕ) → sections_fit n ≡ true
    → ((decoding n k1 k2).mark ≡ mark n k1 k2) × ((decoding n k1 k2).alarm ≡ alarm n k1 k2)
found_right = fit_found

alarm_alone : (n k1 k2 : ℕ) → alarm n k1 k2 ≡ alarm_in k2
alarm_alone = alarm_test

-- The table of K1 values, of any list of rows (`numbers_right` says that the constant is that of `requests`): for every K1
-- and every n from 1 to 14 the table's reading, usable with its rank or the mark 3 or 4, is the reading by the rows.
table_right : (table : List ℕ) (rows : List Row) → table ≡ table_of rows
    → (k1 n : ℕ) → k1 < 256 → sections_fit n ≡ true → read_in (get_or table k1 0) n ≡ read_by rows n k1
table_right = table_read

-- For a value with mark 3 or 4 no n makes it usable, and for another one the usable n are exactly least..greatest. (For one
-- with a mark that is no n at all: its greatest is 0.) Each value has mark 3, mark 4 or none, and none exactly if its
-- least n is above 0.
marked_right : (table : List ℕ) (rows : List Row) → table ≡ table_of rows
    → (k1 n : ℕ) → k1 < 256 → sections_fit n ≡ true →
    let v = value_in (get_or table k1 0) in
    (v.mark ≡ 3) ⊎ (v.mark ≡ 4) → usable_for rows k1 n ≡ false
marked_right = table_marked

usable_exact : (table : List ℕ) (rows : List Row) → table ≡ table_of rows
    → (k1 n : ℕ) → k1 < 256 → sections_fit n ≡ true →
    let v = value_in (get_or table k1 0) in
    (usable_for rows k1 n ≡ true) ↔ ((v.least ≤ n) × (n ≤ v.greatest))
usable_exact = table_usable

marked_complete : (table : List ℕ) (rows : List Row) → table ≡ table_of rows → (k1 : ℕ) → k1 < 256 →
    let v = value_in (get_or table k1 0) in
    ((v.mark ≡ 3) ⊎ (v.mark ≡ 4) ⊎ (v.mark ≡ 0)) × ((v.mark ≡ 0) ↔ (1 ≤ v.least))
marked_complete = table_kinds

-- With the number of its K1 a pair decodes as it does, and it is usable by its K1 and its K2.
looked_right : (n k1 k2 : ℕ) → decoding_looked (number_for requests k1) n k1 k2 ≡ decoding n k1 k2
looked_right = decoding_looked_lem

usable_apart : (n k1 k2 : ℕ) → usable_for requests k1 n && second_usable n k2 ≡ usable n k1 k2
usable_apart = usable_test

-- The request of a usable pair stands in a row of the table, and has the rank of each row that it stands in.
row_complete : (n k1 k2 : ℕ) (p : Pair) → decoding_case (decoding n k1 k2) ≡ Ok (decoded.Usable p)
    → (i : ℕ) × (i < length requests) × (stands (row_at i) n p.code p.channel ≡ true)
row_complete = usable_row

row_right : (n code c i : ℕ) → i < length requests → stands (row_at i) n code c ≡ true → rank_of code c ≡ (row_at i).rank
row_right = row_rank

-- SF0 outranks FS, whatever its channel.
fail_right : (c : ℕ) → rank_of forced_code c < rank_of fail_high_code 0
fail_right = fail_outranks

-- No rank is above 10, and each rank above 0 is one code's alone.
rank_bounded : (code c : ℕ) → rank_of code c ≤ 10
rank_bounded = rank_most

rank_unshared : (code c code2 c2 : ℕ) → 0 < rank_of code c → rank_of code c ≡ rank_of code2 c2 → code ≡ code2
rank_unshared = rank_own

-- Two answers that the promise of a public function allows are equal. (`Post` is the function's `ensures`, as the checker
-- reads it off the source.)
decode_unique : OneAnswer 0 decode-kinds.ps decode-kinds.r decode.Post
decode_unique κs args x y s t p q = one_case p q

encode_unique : OneAnswer 0 encode-kinds.ps encode-kinds.r encode.Post
encode_unique κs args x y s t p q = one_case p q

rank_unique : OneAnswer 0 rank-kinds.ps rank-kinds.r rank.Post
rank_unique κs args x y s t p q = one_value p q

value_of_unique : OneAnswer 0 value-of-kinds.ps value-of-kinds.r value_of_lem.Post
value_of_unique κs args x y s t p q = value_one (one_value p q)

mark_number_unique : OneAnswer 0 mark-number-kinds.ps mark-number-kinds.r mark-number-fn.Post
mark_number_unique κs args x y s t p q = one_value p q

mark_number_or_0_unique : OneAnswer 0 mark-number-or-0-kinds.ps mark-number-or-0-kinds.r mark-number-or-0-fn.Post
mark_number_or_0_unique κs args x y s t p q = one_value p q

-- So it is for what is open to the crates above alone: `numbers`, `rank_in`, `usable_in`, `decode_looked`, `second_usable`,
-- `alarm`.
shared_unique : OneAnswer 0 numbers-kinds.ps numbers-kinds.r numbers.Post
    × OneAnswer 0 rank-in-kinds.ps rank-in-kinds.r rank-in.Post
    × OneAnswer 0 usable-in-kinds.ps usable-in-kinds.r usable-in.Post
    × OneAnswer 0 decode-looked-kinds.ps decode-looked-kinds.r decode-looked.Post
    × OneAnswer 0 second-usable-kinds.ps second-usable-kinds.r second-usable.Post
    × OneAnswer 0 alarm-kinds.ps alarm-kinds.r alarm-fn.Post
shared_unique = (
  λ κs args x y s t p q. one_value p q,
  λ κs args x y s t p q. one_value p q,
  λ κs args x y s t p q. one_value p q,
  λ κs args x y s t p q. one_case p q,
  λ κs args x y s t p q. one_value p q,
  λ κs args x y s t p q. one_value p q,
)

-- `found` too.
found_in_unique : OneAnswer 0 found-kinds.ps found-kinds.r found-fn.Post
found_in_unique κs args x y s t p q = one_case p q
