-- Reading a book: refusals 20 to 24, then entry by entry 25, 31, 32, 26 and 27, then 28 (01, 'Numbered refusals'; 02, f
-- and g).
use Rattle.std.specs.Prelude.{if◌then◌else◌, Result, Ok, Err, not, List, [], ◌∷◌, ◌++◌, ℕ, ltb, eqb, length, get_or}
use Rattle.basics.specs.First.{Check, ◌when◌, first_of}
use Rattle.basics.specs.Refusal.{refusal_number, refused_or}
use Rattle.basics.specs.declared.refusal.Refusal.{Refusal}
use Rattle.book.specs.Format.{count_in, entries_of, first_body, body_end, settings_faults, most, places}
use Rattle.book.specs.declared.Entry.{Entry}
use Rattle.book.specs.declared.Contents.{Contents}

abbrev pub head_faults : List ℕ → List Check
head_faults book =
    (20 when ltb most (length book))
    ∷ (21 when ltb (length book) 2)
    ∷ (22 when not (eqb (get_or book 0 0) 1))
    ∷ (23 when ltb 64 (count_in book))
    ∷ (24 when ltb (length book) (first_body (count_in book)))
    ∷ []

-- of an entry whose body belongs at a place of a book of that size: the settings come first, then where the body is
abbrev pub place_faults : ℕ → ℕ → Entry → List Check
place_faults size at e = (26 when not (eqb e.offset at)) ∷ (27 when ltb size (body_end at e)) ∷ []

abbrev pub entry_faults : ℕ → ℕ → Entry → List Check
entry_faults size at e = settings_faults e ++ place_faults size at e

unfoldable pub body_faults : ℕ → ℕ → List Entry → List Check
body_faults size at [] = (28 when ltb at size) ∷ []
body_faults size at (e ∷ rest) = entry_faults size at e ++ body_faults size (body_end at e) rest

-- in the paper's order
abbrev pub read_faults : List ℕ → List Check
read_faults book = head_faults book ++ body_faults (length book) (first_body (count_in book)) (entries_of book)

unfoldable pub refusal : List ℕ → ℕ
refusal book = first_of (read_faults book)

-- what reading answers: a refusal with zeros, or 0 with the contents
pub record Reading : Type 0 where
  pub refusal : ℕ
  pub contents : Contents

abbrev pub refused_reading : ℕ → Reading
refused_reading number = record { refusal = number; contents = record { count = 0; entries = places [] } }

unfoldable pub reading : List ℕ → Reading
reading book =
    if eqb (refusal book) 0
    then record { refusal = 0; contents = record { count = count_in book; entries = places (entries_of book) } }
    else refused_reading (refusal book)

abbrev pub reading_told : Result Contents Refusal → Reading
reading_told (Ok contents) = record { refusal = 0; contents = contents }
reading_told (Err e) = refused_reading (refusal_number e)

abbrev pub reading_case : Reading → Result Contents Refusal
reading_case a = refused_or a.refusal a.contents
