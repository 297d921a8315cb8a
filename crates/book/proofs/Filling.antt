-- The writer's loop: capture by capture, its entry behind the first two bytes and its body behind the contents.
use mathlib.Core.Path.{◌≡◌, refl, sym, ap, ◌∙◌}
use mathlib.Core.List.{List, [], ◌∷◌, ◌++◌}
use Prim.Native.Nat.{ℕ, ◌+◌, ◌*◌, ◌-◌, ◌≤◌}
use native.Mathlib.Omega.{arith}
use lib.ListN.{length, take, drop, length-drop, take-append-drop, drop_of_length-le}
use lib.Seq.{sets, length-sets, length-take-le}
use Rattle.basics.proofs.Bytes.{sets_joined, sets_apart}
use Rattle.book.specs.Format.{entry_bytes, first_body, placed_at, placed, contents_bytes, most}
use Rattle.book.specs.Writer.{counted, steps_of, write_refusal}
use Rattle.book.specs.declared.Entry.{Entry}
use Rattle.book.specs.declared.Contents.{Contents}
use Rattle.book.proofs.Refusals.{writable}
use Rattle.book.proofs.Counted.{length_counted, steps_next, steps_none}
use Rattle.book.proofs.Laid.{length_entry, length_first, put, put_down}

-- what entries and bodies leave of an output, the entries from one place on and the bodies from another
abbrev filled : List ℕ → ℕ → List Entry → ℕ → List ℕ → List ℕ
filled out place entries at bodies = sets (sets out place (contents_bytes (placed at entries))) at bodies

-- Captures before i are written. Entries are left, and of the bodies what is not put; the next body belongs at `at`.
pub record Filling (contents : Contents) (bodies before out : List ℕ) (at : ℕ) (unput : List ℕ) (left : List Entry) (i : ℕ)
    : Type 0 where
  pub few : i + length left ≡ contents.count
  pub same : length out ≡ length before
  pub roomy : first_body contents.count + length bodies ≤ length before
  pub small : first_body contents.count + length bodies ≤ most
  pub behind : first_body contents.count ≤ at
  pub ends : at + length unput ≡ first_body contents.count + length bodies
  pub steps : 4 * steps_of left ≡ length unput
  pub fills :
      filled out (2 + 12 * i) left at unput
      ≡ filled before 2 (counted contents) (first_body contents.count) bodies

pub fill_start : (contents : Contents) (bodies out : List ℕ) (left : List Entry) (i at : ℕ)
    → write_refusal contents (length bodies) (length out) ≡ 0 → left ≡ counted contents → i ≡ 0
    → at ≡ first_body contents.count
    → Filling contents bodies out out at bodies left i
fill_start contents bodies out left i at e all none first =
    let w = writable contents (length bodies) (length out) e in
    rw (all, none, first)
    (record {
      few = omega (arith, length_counted contents.count contents.entries);
      same = refl;
      roomy = w.roomy;
      small = w.small;
      behind = omega arith;
      ends = refl;
      steps = sym w.whole;
      fills = refl;
    })

module _ {contents : Contents} {bodies before out : List ℕ} {at : ℕ} {unput : List ℕ} {left : List Entry} {i : ℕ}
    (filling : Filling contents bodies before out at unput left i) where
  pub fill_done : left ≡ []
      → out ≡ sets (sets before 2 (contents_bytes (placed (first_body contents.count) (counted contents)))) (first_body contents.count) bodies
  unfolding placed contents_bytes
  fill_done none =
      let nothing : length unput ≤ 0 = omega (arith, filling.steps, steps_none none) in
      ap (λ (es : List Entry). filled out (2 + 12 * i) es at []) (sym none)
      ∙ ap (filled out (2 + 12 * i) left at) (sym (drop_of_length-le unput nothing))
      ∙ filling.fills

  module _ {e : Entry} {rest : List Entry} (next : left ≡ e ∷ rest) (size : ℕ) (sized : size ≡ 4 * e.steps) where
    pub fill_inside : size ≤ length unput
    fill_inside = omega (arith, steps_next next, filling.steps, sized)

    pub fill_room : at + size ≤ length out
    fill_room = omega (arith, fill_inside, filling.ends, filling.roomy, filling.same)

    pub fill_place : 2 + 12 * i + 12 ≤ length out
    fill_place = omega (arith, ap length next, filling.few, filling.roomy, filling.same)

    abbrev body : List ℕ
    body = take size unput

    abbrev place : ℕ
    place = 2 + 12 * i

    -- the entry at its place
    module _ (between : List ℕ) (first : between ≡ sets out place (entry_bytes (placed_at at e))) where
      pub fill_between : length between ≡ length out
      fill_between = ap length first ∙ length-sets out place (entry_bytes (placed_at at e))

      abbrev later : List ℕ
      later = contents_bytes (placed (at + size) rest)

      listed : sets between (2 + 12 * (i + 1)) later ≡ sets out place (contents_bytes (placed at left))
      unfolding placed contents_bytes
      listed =
          let beside : 2 + 12 * (i + 1) ≡ place + length (entry_bytes (placed_at at e)) =
          omega (arith, length_entry (placed_at at e)) in
          sets_joined (entry_bytes (placed_at at e)) later out between _ place first
          (ap (λ (n : ℕ). sets between n later) beside)
          ∙ ap (λ (n : ℕ). sets out place (entry_bytes (placed_at at e) ++ contents_bytes (placed (at + n) rest))) sized
          ∙ ap (λ (es : List Entry). sets out place (contents_bytes (placed at es))) (sym next)

      -- the entries that are left end before the first body
      apart : 2 + 12 * (i + 1) + length later ≤ at
      apart =
          omega (arith, length_first (at + size) rest, ap length next, filling.few, filling.behind)

      -- then the body at its offset
      fill_next : (after : List ℕ) → after ≡ sets between at body
          → Filling contents bodies before after (at + size) (drop size unput) rest (i + 1)
      fill_next after second =
          let listing = sets between (2 + 12 * (i + 1)) later in
          let long : length body ≡ size = length-take-le size unput fill_inside in
          record {
            few = omega (arith, ap length next, filling.few);
            same = ap length second ∙ length-sets between at body ∙ fill_between ∙ filling.same;
            roomy = filling.roomy;
            small = filling.small;
            behind = omega (arith, filling.behind);
            ends = omega (arith, length-drop size unput, fill_inside, filling.ends);
            steps = omega (arith, length-drop size unput, steps_next next, filling.steps, sized);
            fills =
                ap (λ (l : List ℕ). sets (sets l (2 + 12 * (i + 1)) later) (at + size) (drop size unput)) second
                ∙ ap (λ (l : List ℕ). sets l (at + size) (drop size unput))
                (sets_apart later body between (2 + 12 * (i + 1)) at apart)
                ∙ ap (λ (n : ℕ). sets (sets listing at body) (at + n) (drop size unput)) (sym long)
                ∙ sets_joined body (drop size unput) listing (sets listing at body) _ at refl refl
                ∙ ap (sets listing at) (take-append-drop size unput)
                ∙ ap (λ (l : List ℕ). sets l at unput) listed
                ∙ filling.fills;
          }

    -- a turn of the loop, as the code has it
    pub fill_turn : (entry part copy after : List ℕ) (k j : ℕ) → entry ≡ entry_bytes (placed_at at e) → part ≡ body
        → copy ≡ part → after ≡ drop size unput → k ≡ i → j ≡ i + 1
        → Filling contents bodies before
        (put at (at + length part - at) (put (2 + 12 * k) (2 + 12 * k + 12 - (2 + 12 * k)) out entry) copy)
        (at + length part) after rest j
    fill_turn entry part copy after k j is cut same over here on =
        let long : length body ≡ size = length-take-le size unput fill_inside in
        let first = put_down out (entry_bytes (placed_at at e)) place (place + 12 - place)
        (omega (arith, length_entry (placed_at at e))) (omega (arith, fill_place)) in
        let between = put place (place + 12 - place) out (entry_bytes (placed_at at e)) in
        let second : put at (at + size - at) between body ≡ sets between at body =
        put_down between body at (at + size - at) (omega arith) (omega (arith, fill_room, fill_between between first)) in
        rw (is, same, cut, over, here, on, long) (fill_next between first _ second)
