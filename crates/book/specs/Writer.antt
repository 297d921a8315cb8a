-- Writing a book: refusal 23, then entry by entry 25, 31 and 32, then 30, 20, 29 in this order (01, 'Numbered refusals'; 02,
-- f and g).
use Rattle.std.specs.Prelude.{if◌then◌else◌, Result, Ok, Err, not, List, [], ◌∷◌, ◌++◌, ℕ, zero, suc, ◌+◌, ◌*◌, ltb, eqb, length, get_or, drop}
use Rattle.basics.specs.First.{Check, ◌when◌, first_of}
use Rattle.basics.specs.Refusal.{refusal_number, refused_or}
use Rattle.basics.specs.declared.refusal.Refusal.{Refusal}
use Rattle.book.specs.Format.{first_body, settings_faults, most, no_entry, book_of}
use Rattle.book.specs.declared.Entry.{Entry}
use Rattle.book.specs.declared.Contents.{Contents}

-- the entries that count, one from each of the first k places; the places past them are not looked at
unfoldable pub first_places : ℕ → List Entry → List Entry
first_places zero entries = []
first_places (suc k) entries = get_or entries 0 no_entry ∷ first_places k (drop 1 entries)

abbrev pub counted : Contents → List Entry
counted contents = first_places contents.count contents.entries

unfoldable pub steps_of : List Entry → ℕ
steps_of [] = 0
steps_of (e ∷ rest) = e.steps + steps_of rest

-- `bodies` is the number of bytes of the joined bodies, `room` that of the output
abbrev pub size : Contents → ℕ → ℕ
size contents bodies = first_body contents.count + bodies

unfoldable pub entries_faults : List Entry → List Check
entries_faults [] = []
entries_faults (e ∷ rest) = settings_faults e ++ entries_faults rest

abbrev pub size_faults : Contents → ℕ → ℕ → List Check
size_faults contents bodies room =
    (30 when not (eqb bodies (4 * steps_of (counted contents))))
    ∷ (20 when ltb most (size contents bodies))
    ∷ (29 when ltb room (size contents bodies))
    ∷ []

-- in the paper's order
abbrev pub write_faults : Contents → ℕ → ℕ → List Check
write_faults contents bodies room =
    (23 when ltb 64 contents.count) ∷ entries_faults (counted contents) ++ size_faults contents bodies room

unfoldable pub write_refusal : Contents → ℕ → ℕ → ℕ
write_refusal contents bodies room = first_of (write_faults contents bodies room)

-- what writing answers: a refusal with 0, or the number of bytes written
pub record Wrote : Type 0 where
  pub refusal : ℕ
  pub bytes : ℕ

abbrev pub writing_told : Result ℕ Refusal → Wrote
writing_told (Ok bytes) = record { refusal = 0; bytes = bytes }
writing_told (Err e) = record { refusal = refusal_number e; bytes = 0 }

abbrev pub writing_case : Wrote → Result ℕ Refusal
writing_case a = refused_or a.refusal a.bytes

unfoldable pub writing : Contents → ℕ → ℕ → Wrote
writing contents bodies room =
    if eqb (write_refusal contents bodies room) 0
    then record { refusal = 0; bytes = size contents bodies }
    else record { refusal = write_refusal contents bodies room; bytes = 0 }

-- what the output holds then: the book at its start and what was behind it; or, refused, what it held
unfoldable pub output : Contents → List ℕ → List ℕ → List ℕ
output contents bodies out =
    if eqb (write_refusal contents (length bodies) (length out)) 0
    then book_of (counted contents) bodies ++ drop (size contents (length bodies)) out
    else out
