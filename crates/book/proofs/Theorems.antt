-- The front door: what is proved of capture books, each theorem in full with the line that cites its proof.
use mathlib.Core.Path.{◌≡◌, refl, sym}
use mathlib.Core.Bool.{true}
use mathlib.Core.List.{List, ◌∷◌, ◌++◌}
use mathlib.Core.Logic.{◌↔◌, ◌⊎◌}
use Prim.Native.Nat.{ℕ, ◌+◌, ◌*◌, ◌-◌, ◌≤◌, ◌<◌}
use native.Mathlib.Omega.{arith}
use lib.Dec.{eqb}
use lib.ListN.{length, get_or, take, drop, replicate}
use lib.Seq.{sets}
use Rattle.basics.specs.Bytes.{four_bytes}
use Rattle.std.specs.Prelude.{if◌then◌else◌}
use Rattle.basics.specs.Fields.{size_of}
use Rattle.basics.specs.First.{FirstAt, number_of}
use Rattle.basics.proofs.First.{first_applies}
use Rattle.basics.proofs.One.{OneAnswer, OneContent, OnePart, one_value, one_case}
use Rattle.basics.proofs.Refusals.{told_one}
use Rattle.basics.specs.Table.{every}
use Rattle.book.specs.Format.{count_in, layout, entry_in, entry_bytes, entries_of, contents_in, bytes_of, first_body}
use Rattle.book.specs.Format.{hold_in, settings_fit, IsBook, body_of, joined, entry_fits, places, placed_at, placed, book_of}
use Rattle.book.specs.Reader.{read_faults, refusal, reading}
use Rattle.book.specs.Writer.{counted, steps_of, size, write_faults, write_refusal, writing, output}
use Rattle.book.specs.declared.Entry.{Entry}
use Rattle.book.specs.declared.Contents.{Contents}
use Rattle.book.proofs.Refusals.{fit_hold}
use Rattle.book.proofs.Books.{refused_writing}
use Rattle.book.proofs.Ordered.{order_ends, joined_rest, whole_bodies, book_exact, refused_or_book}
use Rattle.book.proofs.Ordered.{refused_no_book}
use Rattle.book.proofs.Laid.{length_listed, entry_placed}
use Rattle.book.proofs.Trips.{contents_back, contents_again, read_fit, listed_book, read_again, written_again}
use Rattle.book.proofs.Trips.{book_format}
use Rattle.book.proofs.read_into.Kinds as read-into-kinds
use Rattle.book.proofs.read_into.Reads as read-into-fn
use Rattle.book.proofs.read_into.Statement as read-into-statement
use Rattle.book.proofs.read_into.Met as read-into-met
use Rattle.book.proofs.read.Kinds as read-kinds
use Rattle.book.proofs.read.Reads as read-fn
use Rattle.book.proofs.read.Statement as read-statement
use Rattle.book.proofs.read.Met as read-met
use Rattle.book.proofs.hold_in.Kinds as hold-in-kinds
use Rattle.book.proofs.hold_in.Reads as hold-in-fn
use Rattle.book.proofs.hold_in.Statement as hold-in-statement
use Rattle.book.proofs.hold_in.Met as hold-in-met
use Rattle.book.proofs.Entry.hold.Kinds as hold-kinds
use Rattle.book.proofs.Entry.hold.Reads as hold-fn
use Rattle.book.proofs.Entry.hold.Statement as hold-statement
use Rattle.book.proofs.Entry.hold.Met as hold-met
use Rattle.book.proofs.Entry.settings.Kinds as settings-of-kinds
use Rattle.book.proofs.Entry.settings.Reads as settings-of-fn
use Rattle.book.proofs.Entry.settings.Statement as settings-of-statement
use Rattle.book.proofs.Entry.settings.Met as settings-of-met
use Rattle.book.proofs.Contents.captures.Statement as captures-statement
use Rattle.book.proofs.Contents.captures.Met as captures-met
use Rattle.book.proofs.body.Kinds as body-kinds
use Rattle.book.proofs.body.Reads as body-fn
use Rattle.book.proofs.body.Statement as body-statement
use Rattle.book.proofs.body.Met as body-met
use Rattle.book.proofs.write.Kinds as write-kinds
use Rattle.book.proofs.write.Reads as write-fn
use Rattle.book.proofs.write.Statement as write-statement
use Rattle.book.proofs.write.Met as write-met

-- Reading, the setting hold and the body of a capture, and writing, also of contents in bytes by themselves, answer what their
-- definitions say, for every input. (`statement` is the contract, as the checker reads it off the source; it asks nothing of the
-- caller.)
read_right : {M : Type 1} → read-statement.statement M
read_right = read-met.met

hold_in_right : {M : Type 1} → hold-in-statement.statement M
hold_in_right = hold-in-met.met

body_right : {M : Type 1} → body-statement.statement M
body_right = body-met.met

hold_right : {M : Type 1} → hold-statement.statement M
hold_right = hold-met.met

settings_of_right : {M : Type 1} → settings-of-statement.statement M
settings_of_right = settings-of-met.met

captures_right : {M : Type 1} → captures-statement.statement M
captures_right = captures-met.met

write_right : {M : Type 1} → write-statement.statement M
write_right = write-met.met

read_into_right : {M : Type 1} → read-into-statement.statement M
read_into_right = read-into-met.met

-- Two answers that the promise of a public function allows are equal, and so are two contents of the output. (`Post` is
-- the function's `ensures`. A body is a part of the book's own slice; what is decided of it is its bytes.)
read_unique : OneAnswer 1 read-kinds.ps read-kinds.r read-fn.Post
read_unique κs args x y s t p q = one_case p q

hold_in_unique : OneAnswer 0 hold-in-kinds.ps hold-in-kinds.r hold-in-fn.Post
hold_in_unique κs args x y s t p q = one_value p q

body_unique : OnePart 1 body-kinds.ps body-kinds.r body-fn.Post (λ κs part. part.now)
body_unique κs args x y s t p q = one_value p q

hold_unique : OneAnswer 0 hold-kinds.ps hold-kinds.r hold-fn.Post
hold_unique κs args x y s t p q = one_value p q

settings_of_unique : OneAnswer 0 settings-of-kinds.ps settings-of-kinds.r settings-of-fn.Post
settings_of_unique κs args x y s t p q = one_value p q

write_unique : OneAnswer 3 write-kinds.ps write-kinds.r write-fn.Post
write_unique κs args x y s t p q = one_case p.0 q.0

output_unique : OneContent 3 write-kinds.ps write-kinds.r write-fn.Post (λ κs exit. exit.1.1.0.now)
output_unique κs args x y s t p q = one_value p.1 q.1

read_into_unique : OneAnswer 2 read-into-kinds.ps read-into-kinds.r read-into-fn.Post
read_into_unique κs args x y s t p q = told_one x y (one_value p.0 q.0)

listed_unique : OneContent 2 read-into-kinds.ps read-into-kinds.r read-into-fn.Post (λ κs exit. exit.1.0.now)
listed_unique κs args x y s t p q = one_value p.1 q.1

-- Exactly one of two: some check applies, and the first of them in the paper's order gives the refusal; or the bytes are
-- a book: the settings of each entry fit, each body starts where the one before it ends, the first at 2 + 12k, and the last
-- ends with the book.
one_of_two : (book : List ℕ)
    → ((i : ℕ) × FirstAt (read_faults book) i × (refusal book ≡ number_of (read_faults book) i)) ⊎ IsBook book
one_of_two = refused_or_book

not_both : (book : List ℕ) (i : ℕ) → FirstAt (read_faults book) i → IsBook book → ⊥
not_both = refused_no_book

refusal_exact : (book : List ℕ) → (refusal book ≡ 0) ↔ IsBook book
refusal_exact = book_exact

-- Every entry of a book that was read has settings from which a fresh record is made: n is 1 to 14, the mask has no bit at n
-- or above, and the spare byte is 0 or 1. (The record itself is the controller's; `chainplater` states that it is made,
-- `captures_fresh`.) The spare byte of such an entry is 1 with hold, and 0 without.
settings_right : (book : List ℕ) → (reading book).refusal ≡ 0 → every settings_fit (counted (reading book).contents) ≡ true
settings_right = read_fit

spare_right : (e : Entry) → settings_fit e ≡ true → e.spare ≡ (if hold_in e then 1 else 0)
spare_right = fit_hold

-- The first check that applies gives a write's refusal; then no bytes are written and the output is as it was.
write_first : (contents : Contents) (bodies room : ℕ) → (write_refusal contents bodies room ≡ 0 → ⊥)
    → (i : ℕ)
    × FirstAt (write_faults contents bodies room) i
    × (write_refusal contents bodies room ≡ number_of (write_faults contents bodies room) i)
unfolding write_refusal
write_first contents bodies room = first_applies (write_faults contents bodies room)

write_refused : (contents : Contents) (bodies out : List ℕ)
    → (write_refusal contents (length bodies) (length out) ≡ 0 → ⊥)
    → (writing contents (length bodies) (length out)
    ≡ record { refusal = write_refusal contents (length bodies) (length out); bytes = 0 })
    × (output contents bodies out ≡ out)
write_refused = refused_writing

-- The books are just those that the writer writes, of contents that a program can hand it: 64 places, each with fields that
-- fit into their bytes.
format_exact : (book : List ℕ) → ((i : ℕ) → get_or book i 0 < 256)
    → IsBook book
    ↔ ((contents : Contents)
    × (bodies : List ℕ)
    × (length contents.entries ≡ 64)
    × (every entry_fits contents.entries ≡ true)
    × (write_refusal contents (length bodies) (length book) ≡ 0)
    × (book_of (counted contents) bodies ≡ book))
format_exact = book_format

-- An entry takes 12 bytes, and a book 2 + 12k + 4 for each step; so none has more than 65,534.
entry_size : size_of layout ≡ 12
entry_size = refl

book_size : (book : List ℕ) → IsBook book → length book ≡ first_body (count_in book) + 4 * steps_of (entries_of book)
book_size book b = sym (order_ends (length book) (first_body (count_in book)) (entries_of book) b.order)

book_largest : (book : List ℕ) → IsBook book → length book ≤ 65534
book_largest book b = let long = book_size book b in omega (arith, b.small)

-- Of a book each body is whole, four bytes for each step; and joined they are all that stands behind the contents.
bodies_whole : (book : List ℕ) → IsBook book
    → every (λ e. eqb (length (body_of book e)) (4 * e.steps)) (entries_of book) ≡ true
bodies_whole book b = whole_bodies book (first_body (count_in book)) (entries_of book) b.order

bodies_joined : (book : List ℕ) → IsBook book
    → joined book (entries_of book) ≡ drop (first_body (count_in book)) book
bodies_joined book b = joined_rest book (first_body (count_in book)) (entries_of book) b.order

-- A book that is read and written again is that book, byte for byte, at the start of the output, with the rest of the
-- output as it was. (The bodies are what `body` hands out for the entries that were read, joined.)
read_write : (book out : List ℕ) → ((i : ℕ) → get_or book i 0 < 256) → (reading book).refusal ≡ 0
    → length book ≤ length out →
    let contents = (reading book).contents in
    let bodies = joined book (counted contents) in
    (writing contents (length bodies) (length out) ≡ record { refusal = 0; bytes = length book })
    × (output contents bodies out ≡ book ++ drop (length book) out)
read_write = read_again

-- What was written is read as it was handed in: n, spare byte, mask, W and steps of each entry, with the offsets where the
-- bodies belong, and zeros past the count; and its bodies are those that were handed in, each with four bytes a step.
write_read : (contents : Contents) (bodies out : List ℕ) → write_refusal contents (length bodies) (length out) ≡ 0 →
    let book = take (size contents (length bodies)) (output contents bodies out) in
    let entries = placed (first_body contents.count) (counted contents) in
    (reading book
    ≡ record { refusal = 0; contents = record { count = contents.count; entries = places entries } })
    × (joined book entries ≡ bodies)
    × (every (λ e. eqb (length (body_of book e)) (4 * e.steps)) entries ≡ true)
write_read = written_again

-- In bytes by themselves, the contents of a book that was read are the book's own bytes behind the count, with zeros behind
-- them; and an entry as it is written is the caller's 12 bytes with the offset put in.
listed_right : (book : List ℕ) → ((i : ℕ) → get_or book i 0 < 256) → IsBook book
    → bytes_of (reading book).contents
    ≡ (count_in book ∷ take (12 * count_in book) (drop 2 book)) ++ replicate (12 * (64 - count_in book)) 0
listed_right = listed_book

placed_right : (bytes : List ℕ) → ((i : ℕ) → get_or bytes i 0 < 256) → 12 ≤ length bytes → (at : ℕ)
    → entry_bytes (placed_at at (entry_in bytes)) ≡ sets (take 12 bytes) 6 (four_bytes at)
placed_right = entry_placed

-- Contents in bytes by themselves are 769. What was written there is read back, and what was read there is written again
-- byte for byte.
contents_size : (contents : Contents) → length contents.entries ≡ 64 → length (bytes_of contents) ≡ 769
contents_size = length_listed

contents_read : (contents : Contents) → length contents.entries ≡ 64 → contents_in (bytes_of contents) ≡ contents
contents_read = contents_back

contents_written : (bytes : List ℕ) → length bytes ≡ 769 → ((i : ℕ) → get_or bytes i 0 < 256)
    → bytes_of (contents_in bytes) ≡ bytes
contents_written = contents_again
