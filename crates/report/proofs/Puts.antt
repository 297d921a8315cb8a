-- Laws of texts on a page: where there is room, those of the page stand there, and two of them, the second behind the first, are
-- one.
use mathlib.Core.Path.{◌≡◌, sym, ap, subst, ◌∙◌}
use mathlib.Core.List.{List, ◌++◌}
use Prim.Native.Nat.{ℕ}
use native.Mathlib.Nat.{zero-add}
use native.Mathlib.Omega.{arith}
use lib.ListN.{length, drop, length-append}
use lib.Seq.{sets, sets-eq, length-sets}
use Rattle.basics.proofs.Bytes.{sets_joined}
use Rattle.page.specs.Page.{Puts, PutsEach}
use Rattle.page.specs.Text.{joined, last, field as page_field}
use Rattle.page.specs.declared.Page.{Page}
use Rattle.page.proofs.Texts.{text_put, end_put, texts_joined}
use Rattle.report.specs.Put.{Room, Put}
use Rattle.report.specs.Table.{field, ending}

-- told of a text under another name
pub room_as : {page : Page} {text other : List ℕ} → text ≡ other → Room page other → Room page text
room_as {page} e room = subst (Room page) (sym e) room

pub put_as : {before after : Page} {text other : List ℕ} → text ≡ other → Put before text after → Put before other after
put_as {before} {after} e p = subst (λ (t : List ℕ). Put before t after) e p

pub put_long : {page after : Page} {text : List ℕ} → Put page text after → length after.bytes.now ≡ length page.bytes.now
put_long {page} {text = text} p = ap length p.stands ∙ length-sets page.bytes.now page.at text

pub behind : {page between after : Page} {first second : List ℕ} → Put page first between → Put between second after
    → Put page (first ++ second) after
behind {page} {between} {after} {first} {second} p q =
    let stands = ap (λ (k : ℕ). sets between.bytes.now k second) p.ends in
    let long = length-append first second in
    record {
      stands = sets_joined first second page.bytes.now between.bytes.now after.bytes.now page.at p.stands (q.stands ∙ stands);
      ends = q.ends ∙ omega (arith, p.ends);
      same = q.same ∙ p.same;
    }

-- the room that is left behind the first
pub room_first : {page : Page} {first : List ℕ} (second : List ℕ) → Room page (first ++ second) → Room page first
room_first {first = first} second room =
    let long = length-append first second in record { fits = omega (arith, room.fits) }

pub room_behind : {page between : Page} {first second : List ℕ} → Room page (first ++ second) → Put page first between
    → Room between second
room_behind {first = first} {second} room p =
    let long = length-append first second in
    let same = put_long p in
    record { fits = omega (arith, room.fits, p.ends) }

-- what the page promises of one text, and of more of them
pub put_one : {before after : Page} {text : List ℕ} → Room before text → Puts before text after → Put before text after
put_one {before} {text = text} room told =
    record {
      stands = told.page ∙ text_put before.bytes.now before.at text room.fits;
      ends = told.place ∙ end_put before.bytes.now before.at text room.fits;
      same = told.same;
    }

put_each : {before after : Page} (texts : List (List ℕ)) → Room before (joined texts) → PutsEach before texts after
    → Put before (joined texts) after
put_each {before} texts room told =
    let whole = texts_joined before.bytes.now before.at texts room.fits in
    record {
      stands = told.page ∙ whole.0 ∙ text_put before.bytes.now before.at (joined texts) room.fits;
      ends = told.place ∙ whole.1;
      same = told.same;
    }

-- the end of a line: a word and its number, of which a text is made
pub ending_put : {before after : Page} {text : List ℕ} (word : List ℕ) {number shown : ℕ} → text ≡ ending word number
    → shown ≡ number → Room before text → PutsEach before (last word shown) after → Put before text after
ending_put word {number} same told room put =
    put_as (sym same) (put_each (last word number) (room_as (sym same) room) (rw told at put))

-- a number and the space behind it, in front of more
pub field_put : {before after : Page} {v shown : ℕ} (more : List ℕ) → shown ≡ v → Room before (field v ++ more)
    → PutsEach before (page_field shown) after → Put before (field v) after
field_put {v = v} more told room put = put_each (page_field v) (room_first more room) (rw told at put)

-- at the start of a page, the text and what was behind it
pub from_start : {page after : Page} {text : List ℕ} → page.at ≡ 0 → Room page text → Put page text after
    → (after.bytes.now ≡ text ++ drop (length text) page.bytes.now) × (after.at ≡ length text)
from_start {page} {text = text} start room p = (
  p.stands ∙ sets-eq text page.bytes.now page.at room.fits ∙ rw (start, zero-add (length text)),
  p.ends ∙ rw (start, zero-add (length text)),
)
