-- What the functions inside the crate tell each other: a text stands at the place of a page, and the next one goes behind it.
use Rattle.std.specs.Prelude.{◌≡◌, List, ℕ, ◌+◌, ◌≤◌, length}
use Rattle.std.proofs.lemmas.List.Edits.{sets}
use Rattle.book.specs.Reader.{refusal, reading}
use Rattle.book.specs.declared.Contents.{Contents}
use Rattle.book.specs.declared.Entry.{Entry}
use Rattle.page.specs.declared.Page.{Page}
use Rattle.report.specs.Table.{Answered, line_text, IsVerdict, Printed}

-- a text has room at the place
pub record Room (page : Page) (text : List ℕ) : Type 0 where
  pub fits : page.at + length text ≤ length page.bytes.now

pub record Put (before : Page) (text : List ℕ) (after : Page) : Type 0 where
  pub stands : after.bytes.now ≡ sets before.bytes.now before.at text
  pub ends : after.at ≡ before.at + length text
  pub same : after.bytes.ghost_name ≡ before.bytes.ghost_name

-- its line has room, whichever verdict is right
abbrev pub LineRoom : Page → List ℕ → ℕ → Entry → Type 0
LineRoom page book number e = (v : Answered) → IsVerdict book e v → Room page (line_text number e v)

pub record PutLine (before : Page) (book : List ℕ) (number : ℕ) (e : Entry) (after : Page) : Type 0 where
  pub verdict : Answered
  pub right : IsVerdict book e verdict
  pub put : Put before (line_text number e verdict) after

-- what was read of a book, and a page for its table
pub record Opened (page : Page) (book : List ℕ) (contents : Contents) : Type 0 where
  pub large : 2048 ≤ length page.bytes.now
  pub start : page.at ≡ 0
  pub unrefused : refusal book ≡ 0
  pub read : contents ≡ (reading book).contents

pub record PutTable (before : Page) (book : List ℕ) (after : Page) : Type 0 where
  pub printed : Printed book before.bytes.now after.bytes.now after.at
  pub same : after.bytes.ghost_name ≡ before.bytes.ghost_name
