-- What a function that puts texts promises of the page that it is lent: what it holds, where the next text goes, and that it is
-- the same memory.
use Rattle.std.specs.Prelude.{◌≡◌, List, ℕ}
use Rattle.page.specs.Text.{with_text, text_end, with_texts, texts_end}
use Rattle.page.specs.declared.Page.{Page}

-- one text
pub record Puts (before : Page) (text : List ℕ) (after : Page) : Type 0 where
  pub place : after.at ≡ text_end before.bytes.now before.at text
  pub page : after.bytes.now ≡ with_text before.bytes.now before.at text
  pub same : after.bytes.ghost_name ≡ before.bytes.ghost_name

-- texts one behind the other
pub record PutsEach (before : Page) (texts : List (List ℕ)) (after : Page) : Type 0 where
  pub place : after.at ≡ texts_end before.bytes.now before.at texts
  pub page : after.bytes.now ≡ with_texts before.bytes.now before.at texts
  pub same : after.bytes.ghost_name ≡ before.bytes.ghost_name
