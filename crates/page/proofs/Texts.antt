-- Laws of a text at a place: with room it stands there, without it the page is as it was.
use mathlib.Core.Path.{◌≡◌, refl, sym, ap, ◌∙◌}
use mathlib.Core.Bool.{Bool, true, false}
use mathlib.Core.List.{List, [], ◌∷◌, ◌++◌, append_assoc}
use Prim.Native.Nat.{ℕ, ◌+◌, ◌≤◌, ◌<◌}
use native.Mathlib.Omega.{arith}
use lib.Dec.{leb}
use lib.ListN.{length, take, drop, length-append}
use lib.Seq.{sets, sets-eq, length-sets, drop-drop}
use borrow.Author.Tests.{leb-true, leb-false, le-leb, lt-leb}
use Rattle.basics.proofs.Bytes.{sets_joined}
use Rattle.page.specs.Text.{with_text, text_end, with_texts, texts_end, joined, line_start}

module _ (page : List ℕ) (at : ℕ) (text : List ℕ) where
  module _ (room : at + length text ≤ length page) where
    pub text_put : with_text page at text ≡ sets page at text
    unfolding with_text
    text_put = rw (le-leb (at + length text) (length page) room)

    pub end_put : text_end page at text ≡ at + length text
    unfolding text_end
    end_put = rw (le-leb (at + length text) (length page) room)

    pub text_stands : with_text page at text ≡ take at page ++ text ++ drop (at + length text) page
    text_stands = text_put ∙ sets-eq text page at room

    -- the part of the page that the text fills, holding the text
    pub text_filled : (part : List ℕ) (size : ℕ) → size ≡ length text → part ≡ text
        → take at page ++ (part ++ drop size (drop at page)) ≡ with_text page at text
    text_filled part size long e =
        rw (long, e, drop-drop (length text) at page, ← append_assoc (take at page) text (drop (at + length text) page)) (sym text_stands)

  module _ (none : length page < at + length text) where
    pub text_dropped : with_text page at text ≡ page
    unfolding with_text
    text_dropped = rw (lt-leb (at + length text) (length page) none)

    pub end_kept : text_end page at text ≡ at
    unfolding text_end
    end_kept = rw (lt-leb (at + length text) (length page) none)

  pub page_long : length (with_text page at text) ≡ length page
  page_long = go (leb (at + length text) (length page)) refl
    where
      go : (t : Bool) → leb (at + length text) (length page) ≡ t → length (with_text page at text) ≡ length page
      go true e =
          ap length (text_put (leb-true (at + length text) (length page) e)) ∙ length-sets page at text
      go false e = ap length (text_dropped (leb-false (at + length text) (length page) e))

-- two texts, the second where the first ends, are one
pub texts_one : (page : List ℕ) (at : ℕ) (first second : List ℕ) → at + length (first ++ second) ≤ length page
    → with_text (with_text page at first) (text_end page at first) second ≡ with_text page at (first ++ second)
texts_one page at first second room =
    let long = length-append first second in
    let between = with_text page at first in
    let room₁ : at + length first ≤ length page = omega arith in
    let room₂ : at + length first + length second ≤ length between = omega (arith, page_long page at first) in
    ap (λ (k : ℕ). with_text between k second) (end_put page at first room₁)
    ∙ sets_joined first second page between _ at (text_put page at first room₁)
    (text_put between (at + length first) second room₂)
    ∙ sym (text_put page at (first ++ second) room)

-- and so are any number of them
pub texts_joined : (page : List ℕ) (at : ℕ) (texts : List (List ℕ)) → at + length (joined texts) ≤ length page
    → (with_texts page at texts ≡ with_text page at (joined texts)) × (texts_end page at texts ≡ at + length (joined texts))
texts_joined page at [] room = (sym (text_put page at [] room), omega arith)
texts_joined page at (text ∷ more) room =
    let long = length-append text (joined more) in
    let between = with_text page at text in
    let next = end_put page at text (omega arith) in
    let rest = texts_joined between (text_end page at text) more (omega (arith, next, page_long page at text)) in
    (rest.0 ∙ texts_one page at text (joined more) room, rest.1 ∙ omega (arith, next))

pub line_room : (size at longest : ℕ) → longest ≤ size → line_start size at longest + longest ≤ size
line_room size at longest h = go (leb (at + longest) size) refl
  where
    go : (t : Bool) → leb (at + longest) size ≡ t → line_start size at longest + longest ≤ size
    go true e = rw e (leb-true (at + longest) size e)
    go false e = rw e (omega arith)
