-- The table that is printed of a book (01, 'Sequences on both sides'), as a list of characters.
use Rattle.std.specs.Prelude.{cond, ◌≡◌, Result, Ok, Err, List, [], ◌∷◌, ◌++◌, ℕ, ◌+◌, eqb, length, drop}
use Prim.Native.Char.{code}
use Prim.Native.String.{String, [] as none, ◌∷◌ as ◌then◌}
use Rattle.basics.specs.Refusal.{refusal_number}
use Rattle.basics.specs.declared.refusal.Refusal.{Refusal}
use Rattle.book.specs.Format.{entries_of, hold_in, body_of}
use Rattle.book.specs.Reader.{refusal}
use Rattle.book.specs.declared.Entry.{Entry}
use Rattle.explain.specs.Verdict.{told, Right}
use Rattle.explain.specs.declared.Verdict.{Verdict}
use Rattle.explain.specs.declared.Verdict.TheVariants as verdict
use Rattle.page.specs.Digits.{decimal}

-- the characters of a text, each by its number in ASCII
abbrev pub chars : String → List ℕ
chars none = []
chars (c then rest) = code c ∷ chars rest

abbrev pub header : List ℕ
header = chars "capture sections steps verdict at\n"

-- a field and the space behind it; a word and its number, which end a line
abbrev pub field : ℕ → List ℕ
field v = decimal v ++ chars " "

abbrev pub ending : List ℕ → ℕ → List ℕ
ending word v = word ++ (decimal v ++ chars "\n")

-- what the judge answers
abbrev pub Answered : Type 0
Answered = Result Verdict Refusal

-- the verdict, and steps or first step; or `refused` and the number
abbrev pub verdict_text : Answered → List ℕ
verdict_text (Ok (verdict.Explained steps)) = ending (chars "explained ") steps
verdict_text (Ok (verdict.Unexplained first)) = ending (chars "unexplained ") first
verdict_text (Err e) = ending (chars "refused ") (refusal_number e)

-- capture number, n, steps, verdict, and steps or first step
unfoldable pub line_text : ℕ → Entry → Answered → List ℕ
line_text number e v = field number ++ (field e.n ++ (field e.steps ++ verdict_text v))

-- a line for each capture, numbered on from a number
abbrev pub lines_text : ℕ → List Entry → List Answered → List ℕ
lines_text number [] [] = []
lines_text number (e ∷ entries) (v ∷ verdicts) = line_text number e v ++ lines_text (number + 1) entries verdicts
lines_text number [] (v ∷ verdicts) = []
lines_text number (e ∷ entries) [] = []

-- a verdict is that of a capture of the book if it is the judge's right answer, by the capture's settings, hold with them (02,
-- g); and verdicts, one a capture, if each is
abbrev pub IsVerdict : List ℕ → Entry → Answered → Type 0
IsVerdict book e v = Right e.n (hold_in e) e.mask e.w (body_of book e) (told v)

abbrev pub AreVerdicts : List ℕ → List Entry → List Answered → Type 0
AreVerdicts book [] [] = Unit {0}
AreVerdicts book (e ∷ entries) (v ∷ verdicts) = IsVerdict book e v × AreVerdicts book entries verdicts
AreVerdicts book [] (v ∷ verdicts) = ⊥
AreVerdicts book (e ∷ entries) [] = ⊥

-- the text of a book's table: the header and the lines; of a refused book the one line `refused N`, without header
unfoldable pub IsTable : List ℕ → List ℕ → Type 0
IsTable book text =
    cond (eqb (refusal book) 0)
    ((verdicts : List Answered)
    × AreVerdicts book (entries_of book) verdicts
    × (text ≡ header ++ lines_text 0 (entries_of book) verdicts))
    (text ≡ ending (chars "refused ") (refusal book))

-- what is promised of the page, as it was before and as it is after: the text at its start, behind it what was there; and the
-- answer is the text's length
pub record Printed (book before after : List ℕ) (answer : ℕ) : Type 0 where
  pub text : List ℕ
  pub table : IsTable book text
  pub page : after ≡ text ++ drop (length text) before
  pub long : answer ≡ length text
