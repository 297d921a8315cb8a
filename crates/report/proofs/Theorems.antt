-- The front door: what is proved of the printed table, each theorem in full with the line that cites its proof.
use mathlib.Core.Path.{◌≡◌}
use mathlib.Core.Bool.{true}
use mathlib.Core.List.{List, [], ◌∷◌, ◌++◌}
use mathlib.Core.Logic.{◌↔◌}
use Prim.Native.Nat.{ℕ, ◌≤◌, ◌<◌}
use lib.Dec.{ltb}
use lib.ListN.{length, get_or, drop}
use Rattle.basics.specs.Table.{every}
use Rattle.basics.proofs.One.{OneAnswer, OneContent}
use Rattle.book.specs.Format.{most, hold_in, body_of, no_entry}
use Rattle.book.specs.Reader.{reading}
use Rattle.book.specs.Writer.{counted}
use Rattle.explain.specs.Verdict.{Judging, Right}
use Rattle.report.specs.Example.{paper_book, paper_table}
use Rattle.report.specs.Table.{chars, header, ending, IsTable, Printed}
use Rattle.report.proofs.Attained.{longest_book, longest_table, longest_bytes, longest_table_lem, longest_length}
use Rattle.report.proofs.Captures.{capture_judged}
use Rattle.report.proofs.Example.{paper_printed, empty_printed}
use Rattle.report.proofs.Tables.{table_some, table_one, table_short, large_printed, printed_is, printed_one}
use Rattle.report.proofs.put_table.Kinds as put-table-kinds
use Rattle.report.proofs.put_table.Reads as put-table-fn
use Rattle.report.proofs.put_table.Statement as put-table-statement
use Rattle.report.proofs.put_table.Met as put-table-met

-- For every book and every page what is promised holds. (`statement` is the contract, as the checker reads it off the source; it
-- asks nothing of the caller.)
put_table_right : {M : Type 1} → put-table-statement.statement M
put_table_right = put-table-met.met

-- What is promised: the page afterwards is the text of the book's table, then what was there, and the answer is the text's length.
-- (What the text is, is `IsTable`; the verdicts in it are the judge's right answers, `Right`.)
put_table_exact : (book text before after : List ℕ) (answer : ℕ) → IsTable book text
    → Printed book before after answer ↔ ((after ≡ text ++ drop (length text) before) × (answer ≡ length text))
put_table_exact = printed_is

-- Two answers that the promise allows are equal, and so are two contents of the page. (`Post` is the function's `ensures`.)
put_table_unique : OneAnswer 2 put-table-kinds.ps put-table-kinds.r put-table-fn.Post
put_table_unique κs args x y s t p q = (printed_one p q).1

page_unique : OneContent 2 put-table-kinds.ps put-table-kinds.r put-table-fn.Post (λ κs exit. exit.1.0.now)
page_unique κs args x y s t p q = (printed_one p q).0

-- Every book, and whatever is none, has a table, and no other.
table_complete : (book : List ℕ) → (text : List ℕ) × IsTable book text
table_complete = table_some

table_unique : (book text text' : List ℕ) → IsTable book text → IsTable book text' → text ≡ text'
table_unique = table_one

-- The longest table has 1,708 characters: none has more, and that of a book, in bytes, has as many. So 2,048 bytes are enough for
-- every book.
table_longest : (book text : List ℕ) → IsTable book text → length text ≤ 1708
table_longest = table_short

longest_there : (book : List ℕ)
    × (text : List ℕ)
    × (every (λ b. ltb b 256) book ≡ true)
    × IsTable book text
    × (length text ≡ 1708)
longest_there = (longest_book, longest_table, longest_bytes, longest_table_lem, longest_length)

-- No line says `refused`: the judge refuses no capture of a book that was read.
captures_judged : (book : List ℕ) → (reading book).refusal ≡ 0
    → (i : ℕ) → i < length (counted (reading book).contents) →
    let e = get_or (counted (reading book).contents) i no_entry in
    (j : Judging) → Right e.n (hold_in e) e.mask e.w (body_of book e) j → j.refusal ≡ 0
captures_judged = capture_judged

-- The paper's example book has the paper's three lines; a book without captures has the header alone; and more than 65,536 bytes
-- are `refused 20`.
paper_right : IsTable paper_book paper_table
paper_right = paper_printed

empty_right : IsTable (1 ∷ 0 ∷ []) header
empty_right = empty_printed

large_right : (book : List ℕ) → most < length book → IsTable book (ending (chars "refused ") 20)
large_right = large_printed
