-- The front door: what is proved of text on a page, each theorem in full with the line that cites its proof.
use mathlib.Core.Path.{◌≡◌, refl}
use mathlib.Core.List.{List, [], ◌∷◌, ◌++◌}
use Prim.Native.Nat.{ℕ, ◌+◌, ◌^◌, ◌≤◌, ◌<◌}
use lib.ListN.{length, take, drop}
use Rattle.basics.proofs.One.{OneAnswer, OneSeen, OneContent, OnePart, one_value}
use Rattle.io.specs.Digits.{last_digits, IsDigitCount}
use Rattle.std.specs.Fmt.{WritesInCalls}
use Rattle.page.specs.Page.{Puts}
use Rattle.page.specs.declared.Page.{Page}
use Rattle.page.specs.Text.{with_text, text_end, with_texts, texts_end, joined, line_start}
use Rattle.page.specs.Digits.{decimal, hexadecimal, number_in}
use Rattle.page.proofs.Texts.{text_stands, end_put, text_dropped, end_kept, page_long, texts_joined, line_room}
use Rattle.page.proofs.Pages.{written_whole}
use Rattle.page.proofs.Numbers.{library_digits, decimal_few, decimal_back, hexadecimal_back}
use Rattle.page.proofs.Page.put.Kinds as put-kinds
use Rattle.page.proofs.Page.put.Reads as put-fn
use Rattle.page.proofs.Page.put.Statement as put-statement
use Rattle.page.proofs.Page.put.Met as put-met
use Rattle.page.proofs.Page.put_number.Kinds as put-number-kinds
use Rattle.page.proofs.Page.put_number.Reads as put-number-fn
use Rattle.page.proofs.Page.put_number.Statement as put-number-statement
use Rattle.page.proofs.Page.put_number.Met as put-number-met
use Rattle.page.proofs.Page.put_hex.Kinds as put-hex-kinds
use Rattle.page.proofs.Page.put_hex.Reads as put-hex-fn
use Rattle.page.proofs.Page.put_hex.Statement as put-hex-statement
use Rattle.page.proofs.Page.put_hex.Met as put-hex-met
use Rattle.page.proofs.Page.put_field.Kinds as put-field-kinds
use Rattle.page.proofs.Page.put_field.Reads as put-field-fn
use Rattle.page.proofs.Page.put_field.Statement as put-field-statement
use Rattle.page.proofs.Page.put_field.Met as put-field-met
use Rattle.page.proofs.Page.put_last.Kinds as put-last-kinds
use Rattle.page.proofs.Page.put_last.Reads as put-last-fn
use Rattle.page.proofs.Page.put_last.Statement as put-last-statement
use Rattle.page.proofs.Page.put_last.Met as put-last-met
use Rattle.page.proofs.Page.new.Statement as new-statement
use Rattle.page.proofs.Page.new.Met as new-met
use Rattle.page.proofs.Page.text.Kinds as text-kinds
use Rattle.page.proofs.Page.text.Reads as text-fn
use Rattle.page.proofs.Page.text.Statement as text-statement
use Rattle.page.proofs.Page.text.Met as text-met
use Rattle.page.proofs.Page.write_out.Kinds as write-out-kinds
use Rattle.page.proofs.Page.write_out.Reads as write-out-fn
use Rattle.page.proofs.Page.write_out.Statement as write-out-statement
use Rattle.page.proofs.Page.write_out.Met as write-out-met
use Rattle.page.proofs.PageWrite.write_str.Statement as write-str-statement
use Rattle.page.proofs.PageWrite.write_str.Met as write-str-met
use Rattle.page.proofs.OutputWrite.write_str.Statement as output-statement
use Rattle.page.proofs.OutputWrite.write_str.Met as output-met
use Rattle.page.proofs.front.Kinds as front-kinds
use Rattle.page.proofs.front.Reads as front-fn
use Rattle.page.proofs.front.Statement as front-statement
use Rattle.page.proofs.front.Met as front-met
use Rattle.page.proofs.Page.next_line.Kinds as next-line-kinds
use Rattle.page.proofs.Page.next_line.Reads as next-line-fn
use Rattle.page.proofs.Page.next_line.Statement as next-line-statement
use Rattle.page.proofs.Page.next_line.Met as next-line-met
use Rattle.page.proofs.next_line.Kinds as line-kinds
use Rattle.page.proofs.next_line.Reads as line-fn
use Rattle.page.proofs.next_line.Statement as line-statement
use Rattle.page.proofs.next_line.Met as line-met

-- Each public function answers, and leaves on the page, what its definition says, for every input. (`statement` is the
-- contract, as the checker reads it off the source; it asks nothing of the caller.)
put_right : {M : Type 1} → put-statement.statement M
put_right = put-met.met

put_number_right : {M : Type 1} → put-number-statement.statement M
put_number_right = put-number-met.met

put_hex_right : {M : Type 1} → put-hex-statement.statement M
put_hex_right = put-hex-met.met

put_field_right : {M : Type 1} → put-field-statement.statement M
put_field_right = put-field-met.met

put_last_right : {M : Type 1} → put-last-statement.statement M
put_last_right = put-last-met.met

front_right : {M : Type 1} → front-statement.statement M
front_right = front-met.met

next_line_right : {M : Type 1} → next-line-statement.statement M
next_line_right = next-line-met.met

line_begun_right : {M : Type 1} → line-statement.statement M
line_begun_right = line-met.met

new_right : {M : Type 1} → new-statement.statement M
new_right = new-met.met

put_text_right : {M : Type 1} → text-statement.statement M
put_text_right = text-met.met

write_out_right : {M : Type 1} → write-out-statement.statement M
write_out_right = write-out-met.met

write_str_right : {M : Type 1} → write-str-statement.statement M
write_str_right = write-str-met.met

output_right : {M : Type 1} → output-statement.statement M
output_right = output-met.met

-- Two places of the next text that the promise of a public function allows are equal, and so are two contents of the page. (`Post`
-- is the function's `ensures`. A front is a part of the caller's own slice; what is decided of it is its bytes.)
put_unique : OneSeen 3 put-kinds.ps put-kinds.r put-fn.Post (λ κs. ℕ) (λ κs x exit. exit.0.now.at)
put_unique κs args x y s t p q = one_value p.place q.place

put_page_unique : OneContent 3 put-kinds.ps put-kinds.r put-fn.Post (λ κs exit. exit.0.now.bytes.now)
put_page_unique κs args x y s t p q = one_value p.page q.page

put_number_unique : OneSeen 2 put-number-kinds.ps put-number-kinds.r put-number-fn.Post (λ κs. ℕ) (λ κs x exit. exit.0.now.at)
put_number_unique κs args x y s t p q = one_value p.place q.place

put_number_page_unique : OneContent 2 put-number-kinds.ps put-number-kinds.r put-number-fn.Post (λ κs exit. exit.0.now.bytes.now)
put_number_page_unique κs args x y s t p q = one_value p.page q.page

put_hex_unique : OneSeen 2 put-hex-kinds.ps put-hex-kinds.r put-hex-fn.Post (λ κs. ℕ) (λ κs x exit. exit.0.now.at)
put_hex_unique κs args x y s t p q = one_value p.place q.place

put_hex_page_unique : OneContent 2 put-hex-kinds.ps put-hex-kinds.r put-hex-fn.Post (λ κs exit. exit.0.now.bytes.now)
put_hex_page_unique κs args x y s t p q = one_value p.page q.page

put_field_unique : OneSeen 2 put-field-kinds.ps put-field-kinds.r put-field-fn.Post (λ κs. ℕ) (λ κs x exit. exit.0.now.at)
put_field_unique κs args x y s t p q = one_value p.place q.place

put_field_page_unique : OneContent 2 put-field-kinds.ps put-field-kinds.r put-field-fn.Post (λ κs exit. exit.0.now.bytes.now)
put_field_page_unique κs args x y s t p q = one_value p.page q.page

put_last_unique : OneSeen 3 put-last-kinds.ps put-last-kinds.r put-last-fn.Post (λ κs. ℕ) (λ κs x exit. exit.0.now.at)
put_last_unique κs args x y s t p q = one_value p.place q.place

put_last_page_unique : OneContent 3 put-last-kinds.ps put-last-kinds.r put-last-fn.Post (λ κs exit. exit.0.now.bytes.now)
put_last_page_unique κs args x y s t p q = one_value p.page q.page

front_unique : OnePart 1 front-kinds.ps front-kinds.r front-fn.Post (λ κs part. part.now)
front_unique κs args x y s t p q = one_value p q

next_line_unique : OneSeen 2 next-line-kinds.ps next-line-kinds.r next-line-fn.Post (λ κs. ℕ) (λ κs x exit. exit.0.now.at)
next_line_unique κs args x y s t p q = one_value p.0 q.0

line_begun_unique : OneAnswer 1 line-kinds.ps line-kinds.r line-fn.Post
line_begun_unique κs args x y s t p q = one_value p q

next_line_page_unique : OneContent 2 next-line-kinds.ps next-line-kinds.r next-line-fn.Post (λ κs exit. exit.0.now.bytes.now)
next_line_page_unique κs args x y s t p q = one_value p.1.0 q.1.0

write_out_unique : OneSeen 2 write-out-kinds.ps write-out-kinds.r write-out-fn.Post (λ κs. ℕ) (λ κs x exit. exit.0.now.at)
write_out_unique κs args x y s t p q = one_value p.0 q.0

write_out_page_unique : OneContent 2 write-out-kinds.ps write-out-kinds.r write-out-fn.Post (λ κs exit. exit.0.now.bytes.now)
write_out_page_unique κs args x y s t p q = one_value p.1.0 q.1.0

put_text_unique : OnePart 2 text-kinds.ps text-kinds.r text-fn.Post (λ κs part. part.now)
put_text_unique κs args x y s t p q = one_value p q

-- With room at its place a text stands there, between what stood before and behind it, and the next place is where it ends;
-- without, the page and the place are as they were. The page has as many bytes as before.
text_right : (page : List ℕ) (at : ℕ) (text : List ℕ) → at + length text ≤ length page
    → (with_text page at text ≡ take at page ++ text ++ drop (at + length text) page)
    × (text_end page at text ≡ at + length text)
text_right page at text room = (text_stands page at text room, end_put page at text room)

text_complete : (page : List ℕ) (at : ℕ) (text : List ℕ) → length page < at + length text
    → (with_text page at text ≡ page) × (text_end page at text ≡ at)
text_complete page at text none = (text_dropped page at text none, end_kept page at text none)

page_size : (page : List ℕ) (at : ℕ) (text : List ℕ) → length (with_text page at text) ≡ length page
page_size = page_long

-- Texts, each put where the one before it ends, stand one behind the other, where there is room for all of them.
texts_right : (page : List ℕ) (at : ℕ) (texts : List (List ℕ)) → at + length (joined texts) ≤ length page
    → (with_texts page at texts ≡ with_text page at (joined texts)) × (texts_end page at texts ≡ at + length (joined texts))
texts_right = texts_joined

-- A formatted text, which is put piece by piece, stands there as one text would, where there is room for it. (`WritesInCalls` is
-- what the library says of a `write!`.)
written_right : (before after : Page) (text : List ℕ) → before.at + length text ≤ length before.bytes.now
    → WritesInCalls Puts before text after → Puts before text after
written_right = written_whole

-- Where a line begins it has room, if a page has.
line_right : (size at longest : ℕ) → longest ≤ size → line_start size at longest + longest ≤ size
line_right = line_room

-- The digits of a number of 64 bits read as that number, and no fewer hold it, so that none leads with a zero; they are those
-- that the library writes. The two of a byte read as that byte.
decimal_right : (v : ℕ) → v < 2 ^ 64 → number_in 10 (decimal v) ≡ v
decimal_right = decimal_back

decimal_fewest : (v : ℕ) → v < 2 ^ 64 → IsDigitCount 10 1 v (length (decimal v))
decimal_fewest = decimal_few

decimal_library : (k v : ℕ) → v < 2 ^ 64 → IsDigitCount 10 1 v k → last_digits 10 k v ≡ decimal v
decimal_library = library_digits

hexadecimal_right : (b : ℕ) → b < 256 → number_in 16 (hexadecimal b) ≡ b
hexadecimal_right = hexadecimal_back

-- `0`, `16383` and `A2`
decimal_none : decimal 0 ≡ 48 ∷ []
unfolding decimal
decimal_none = refl

decimal_five : decimal 16383 ≡ 49 ∷ 54 ∷ 51 ∷ 56 ∷ 51 ∷ []
unfolding decimal
decimal_five = refl

hexadecimal_two : hexadecimal 162 ≡ 65 ∷ 50 ∷ []
unfolding hexadecimal
hexadecimal_two = refl
