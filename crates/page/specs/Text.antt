-- A text at a place of a page: it is put there whole, or, where the page has no room for it there, not at all.
use Rattle.std.specs.Prelude.{if◌then◌else◌, Bool, List, [], ◌∷◌, ◌++◌, ℕ, ◌+◌, leb, length}
use Rattle.std.proofs.lemmas.List.Edits.{sets}
use Rattle.page.specs.Digits.{decimal}

abbrev pub has_room : List ℕ → ℕ → List ℕ → Bool
has_room page at text = leb (at + length text) (length page)

-- what the page holds then
unfoldable pub with_text : List ℕ → ℕ → List ℕ → List ℕ
with_text page at text = if has_room page at text then sets page at text else page

-- where the next text goes
unfoldable pub text_end : List ℕ → ℕ → List ℕ → ℕ
text_end page at text = if has_room page at text then at + length text else at

-- texts one behind the other: what the page holds then, and where the next one goes
abbrev pub with_texts : List ℕ → ℕ → List (List ℕ) → List ℕ
with_texts page at [] = page
with_texts page at (text ∷ more) = with_texts (with_text page at text) (text_end page at text) more

abbrev pub texts_end : List ℕ → ℕ → List (List ℕ) → ℕ
texts_end page at [] = at
texts_end page at (text ∷ more) = texts_end (with_text page at text) (text_end page at text) more

-- the one text that they make where there is room for all of them
abbrev pub joined : List (List ℕ) → List ℕ
joined [] = []
joined (text ∷ more) = text ++ joined more

-- a number with a space behind it
abbrev pub field : ℕ → List (List ℕ)
field v = decimal v ∷ (32 ∷ []) ∷ []

-- a word, a number and the end of the line
abbrev pub last : List ℕ → ℕ → List (List ℕ)
last word v = word ∷ decimal v ∷ (10 ∷ []) ∷ []

-- where a line begins, on a page of so many bytes, that has at most `longest`: at its place, or at the start
abbrev pub line_start : ℕ → ℕ → ℕ → ℕ
line_start size at longest = if leb (at + longest) size then at else 0
