-- Laws of pages: pieces that are put one behind the other are one text, where there is room for it.
use mathlib.Core.Path.{◌≡◌, refl, sym, ap, ◌∙◌}
use mathlib.Core.List.{List, [], ◌∷◌, ◌++◌}
use Prim.Native.Nat.{ℕ, ◌+◌, ◌≤◌}
use lib.ListN.{length}
use Rattle.std.specs.Fmt.{WritesInCalls}
use Rattle.std.specs.List.{concat, FoldsTo}
use Rattle.page.specs.Page.{Puts, PutsEach}
use Rattle.page.specs.Text.{with_text, joined}
use Rattle.page.specs.declared.Page.{Page}
use Rattle.page.proofs.Texts.{end_put, texts_joined}

joined_parts : (parts : List (List ℕ)) → joined parts ≡ concat parts
joined_parts [] = refl
joined_parts (part ∷ more) = ap (λ (rest : List ℕ). part ++ rest) (joined_parts more)

-- one call after the other
each_put : (before after : Page) (parts : List (List ℕ)) → FoldsTo Puts before parts after → PutsEach before parts after
each_put before after [] same =
    record {
      place = ap (λ (p : Page). p.at) (sym same);
      page = ap (λ (p : Page). p.bytes.now) (sym same);
      same = ap (λ (p : Page). p.bytes.ghost_name) (sym same);
    }
each_put before after (part ∷ more) (between, first, rest) =
    let behind = each_put between after more rest in
    record {
      place = rw (first.place, first.page) at behind.place;
      page = rw (first.place, first.page) at behind.page;
      same = behind.same ∙ first.same;
    }

pub written_whole : (before after : Page) (text : List ℕ) → before.at + length text ≤ length before.bytes.now
    → WritesInCalls Puts before text after → Puts before text after
written_whole before after text room calls =
    let told = each_put before after calls.parts calls.calls in
    let whole : joined calls.parts ≡ text = joined_parts calls.parts ∙ calls.whole in
    let enough : before.at + length (joined calls.parts) ≤ length before.bytes.now = rw whole room in
    let one = texts_joined before.bytes.now before.at calls.parts enough in
    record {
      place = told.place ∙ one.1 ∙ ap (λ (t : List ℕ). before.at + length t) whole ∙ sym (end_put before.bytes.now before.at text room);
      page = told.page ∙ one.0 ∙ ap (λ (t : List ℕ). with_text before.bytes.now before.at t) whole;
      same = told.same;
    }
