-- A list that was extended: it is the whole list, what it does not add stays, and two goes are one.
use mathlib.Core.Path.{◌≡◌, refl, sym, ap, ◌∙◌}
use mathlib.Core.Bool.{Bool, true, false, not}
use mathlib.Core.List.{List, [], ◌∷◌, ◌++◌}
use mathlib.Core.Logic.{◌⊎◌, ⊎_elim}
use Prim.Native.Nat.{ℕ, ◌+◌, ◌-◌, ◌%◌, ◌≤◌, ◌<◌, zero-le}
use native.Mathlib.Omega.{arith}
use lib.Dec.{ltb, eqb}
use lib.ListN.{length, get_or, take, drop, length-append, length-drop, get_or-append}
use lib.Seq.{sets, sets-eq, length-sets, length-take-le, take-append-le, take-append_seam, drop-append-le, drop-append_seam}
use lib.Seq.{get_or-take, get_or-drop, get_or-append-add}
use borrow.Author.Tests.{eqb-true, eqb-false, ltb-false, le-ltb, le-leb, eq-eqb, not-false}
use Rattle.basics.specs.Capture.{most}
use Rattle.basics.specs.First.{Check, ◌when◌, first_of}
use Rattle.basics.proofs.First.{none_both, none_exact}
use Rattle.basics.proofs.Bytes.{sets_joined}
use Rattle.switches.specs.Changes.{below◌such_that◌, sent_in, changed, changes}
use Rattle.switches.specs.Extend.{steps_faults, lists, extend_refusal, Grown, extending, extended}
use Rattle.switches.specs.Walk.{first_changes}
use Rattle.switches.proofs.Alike.{alike_self}
use Rattle.switches.proofs.Below.{below_behind, Behind}
use Rattle.switches.proofs.Listed.{listed_equal, listed_count}
use Rattle.switches.proofs.Refusals.{Walks, steps_walk, few_changes}
use Rattle.switches.proofs.Sent.{sent_appended, changes_front}

module _ (bytes : List ℕ) (listed count : ℕ) (table : List ℕ) where
  abbrev all : List ℕ
  all = changes (sent_in bytes)

  abbrev last_checks : List Check
  last_checks =
      (16 when not (lists table count (take listed (sent_in bytes)))) ∷ (12 when ltb (length table) (length all)) ∷ []

  -- what is known where nothing is refused
  pub record Taken : Type 0 where
    pub walks : Walks bytes listed
    pub ours : lists table count (take listed (sent_in bytes)) ≡ true
    pub room : length all ≤ length table
    pub number : extending bytes listed count table ≡ record { refusal = 0; number = length all }
    pub content : extended bytes listed count table ≡ sets table count (drop count all)

  none_apply : extend_refusal bytes listed count table ≡ 0
      → (first_of (steps_faults bytes listed) ≡ 0) × (first_of last_checks ≡ 0)
  unfolding extend_refusal
  none_apply = none_both (steps_faults bytes listed) last_checks refl

  pub taken : (extending bytes listed count table).refusal ≡ 0 → Taken
  unfolding extending extended
  taken e = go (eqb (extend_refusal bytes listed count table) 0) refl
    where
      go : (t : Bool) → eqb (extend_refusal bytes listed count table) 0 ≡ t → Taken
      go true z =
          let parts = none_apply (eqb-true (extend_refusal bytes listed count table) 0 z) in
          let tests = (none_exact last_checks refl).0 parts.1 in
          record {
            walks = steps_walk bytes listed parts.0;
            ours = not-false (lists table count (take listed (sent_in bytes))) (tests 0);
            room = ltb-false (length table) (length all) (tests 1);
            number = rw z;
            content = rw z;
          }
      go false z = absurd (eqb-false (extend_refusal bytes listed count table) 0 z (rw z at e))

  pub untouched : ((extending bytes listed count table).refusal ≡ 0 → ⊥)
      → (extended bytes listed count table ≡ table) × ((extending bytes listed count table).number ≡ 0)
  unfolding extending extended
  untouched some = go (eqb (extend_refusal bytes listed count table) 0) refl
    where
      go : (t : Bool) → eqb (extend_refusal bytes listed count table) 0 ≡ t
          → (extended bytes listed count table ≡ table) × ((extending bytes listed count table).number ≡ 0)
      go true z = absurd (some (rw z))
      go false z = (rw z, rw z)

  module _ (t : Taken) where
    known : (count ≤ length table) × (take count table ≡ first_changes (sent_in bytes) listed)
    known = listed_equal (sent_in bytes) listed table count t.walks.inside t.ours

    counted : count ≡ length (first_changes (sent_in bytes) listed)
    counted = listed_count (sent_in bytes) listed table count t.walks.inside t.ours

    further : Behind (changed (sent_in bytes)) listed (length (sent_in bytes))
    further = below_behind (changed (sent_in bytes)) listed (length (sent_in bytes)) t.walks.inside

    -- what is known and what is put, one behind the other
    pub joined : all ≡ take count table ++ drop count all
    joined =
        let rest = further.rest in
        further.joined
        ∙ ap (λ (l : List ℕ). l ++ rest) (sym known.1)
        ∙ ap (λ (l : List ℕ). take count table ++ l)
        (sym
        (ap (drop count) further.joined
        ∙ ap (λ (k : ℕ). drop k (first_changes (sent_in bytes) listed ++ rest)) counted
        ∙ drop-append_seam (first_changes (sent_in bytes) listed) rest))

    pub few : count ≤ length all
    few =
        let k = counted in
        omega (arith, ap length further.joined, length-append (first_changes (sent_in bytes) listed) further.rest)

    put_room : count + length (drop count all) ≤ length table
    put_room =
        let h = few in
        let room = t.room in
        simp length-drop (omega arith)

    laid : extended bytes listed count table ≡ all ++ drop (length all) table
    laid =
        let long : count + length (drop count all) ≡ length all = (let h = few in simp length-drop (omega arith)) in
        t.content
        ∙ sets-eq (drop count all) table count put_room
        ∙ ap (λ (l : List ℕ). l ++ drop (count + length (drop count all)) table) (sym joined)
        ∙ ap (λ (k : ℕ). all ++ drop k table) long

    -- the first entries are the whole list
    pub listed_whole : take (length all) (extended bytes listed count table) ≡ all
    listed_whole = ap (take (length all)) laid ∙ take-append_seam all (drop (length all) table)

    pub as_long : length (extended bytes listed count table) ≡ length table
    as_long = ap length t.content ∙ length-sets table count (drop count all)

    -- an entry that is known stays, and so does one behind the list
    stays_before : (i : ℕ) → i < count → get_or (extended bytes listed count table) i 0 ≡ get_or table i 0
    stays_before i h =
        let known-long = length-take-le count table known.0 in
        let within : i < length all = (let f = few in omega arith) in
        ap (λ (l : List ℕ). get_or l i 0) laid
        ∙ get_or-append all (drop (length all) table) 0 i within
        ∙ ap (λ (l : List ℕ). get_or l i 0) joined
        ∙ get_or-append (take count table) (drop count all) 0 i (omega arith)
        ∙ get_or-take count table i 0 h

    stays_behind : (i : ℕ) → length all ≤ i → get_or (extended bytes listed count table) i 0 ≡ get_or table i 0
    stays_behind i h =
        let e : i ≡ length all + (i - length all) = omega arith in
        ap (λ (l : List ℕ). get_or l i 0) laid
        ∙ ap (λ (k : ℕ). get_or (all ++ drop (length all) table) k 0) e
        ∙ get_or-append-add all (drop (length all) table) (i - length all) 0
        ∙ get_or-drop (length all) table (i - length all) 0
        ∙ ap (λ (k : ℕ). get_or table k 0) (sym e)

    pub stays : (i : ℕ) → (i < count) ⊎ (length all ≤ i) → get_or (extended bytes listed count table) i 0 ≡ get_or table i 0
    stays i = ⊎_elim (stays_before i) (stays_behind i)

  pub whole_list : (extending bytes listed count table).refusal ≡ 0
      → ((extending bytes listed count table).number ≡ length all)
      × (take (length all) (extended bytes listed count table) ≡ all)
  whole_list none = let t = taken none in (ap (λ (g : Grown). g.number) t.number, listed_whole t)

  pub stays_elsewhere : (extending bytes listed count table).refusal ≡ 0
      → (length (extended bytes listed count table) ≡ length table)
      × ((i : ℕ) → (i < count) ⊎ (length all ≤ i) → get_or (extended bytes listed count table) i 0 ≡ get_or table i 0)
  stays_elsewhere none = let t = taken none in (as_long t, stays t)

-- A list made afresh is refused for nothing but the capture's size and the table's.
pub afresh : (bytes table : List ℕ) → length bytes % 4 ≡ 0 → length bytes ≤ most
    → length (changes (sent_in bytes)) ≤ length table → (extending bytes 0 0 table).refusal ≡ 0
unfolding below◌such_that◌ extend_refusal extending
afresh bytes table whole small room =
    rw (
      eq-eqb (length bytes % 4) 0 whole,
      le-ltb most (length bytes) small,
      le-ltb (length (sent_in bytes)) 0 zero-le,
      le-leb 0 (length table) zero-le,
      le-ltb (length table) (length (changes (sent_in bytes))) room,
    )

pub afresh_all : (bytes table : List ℕ) → length bytes % 4 ≡ 0 → length bytes ≤ most → 16384 ≤ length table
    → (extending bytes 0 0 table).refusal ≡ 0
afresh_all bytes table whole small room =
    afresh bytes table whole small
    (omega
    (arith, few_changes bytes {steps = 0} (record { whole = whole; small = small; inside = zero-le })))

-- Steps appended: the list of the earlier ones, handed in, goes on to the list that one go makes.
module _ (old more : List ℕ) (listed count : ℕ) (table : List ℕ)
    (none : (extending old listed count table).refusal ≡ 0) where
  abbrev first : Taken old listed count table
  first = taken old listed count table none

  abbrev before : List ℕ
  before = sent_in old

  abbrev after : List ℕ
  after = sent_in (old ++ more)

  abbrev between : List ℕ
  between = extended old listed count table

  abbrev steps : ℕ
  steps = length before

  abbrev number : ℕ
  number = (extending old listed count table).number

  number_is : number ≡ length (changes before)
  number_is = ap (λ (g : Grown). g.number) first.number

  appended : after ≡ before ++ sent_in more
  appended = sent_appended old more first.walks.whole

  front_again : take steps after ≡ before
  front_again = ap (take steps) appended ∙ take-append_seam before (sent_in more)

  longer : steps ≤ length after
  longer = omega (arith, ap length appended, length-append before (sent_in more))

  -- neither go has refusal 13 or 16
  inside : ltb (length after) steps ≡ false
  inside = le-ltb (length after) steps longer

  inside_first : ltb (length after) listed ≡ false
  inside_first =
      let h = first.walks.inside in
      let l = longer in
      le-ltb (length after) listed (omega arith)

  ours : lists between number (take steps after) ≡ true
  ours =
      let room = first.room in
      let long = as_long old listed count table first in
      let n = number_is in
      rw (
        front_again,
        le-leb number (length between) (omega arith),
        n,
        listed_whole old listed count table first,
      )
      (alike_self (changes before))

  ours_first : lists table count (take listed after) ≡ true
  ours_first =
      ap (λ (l : List ℕ). lists table count l)
      (ap (take listed) appended ∙ take-append-le listed before (sent_in more) first.walks.inside)
      ∙ first.ours

  same_refusal : extend_refusal (old ++ more) steps number between ≡ extend_refusal (old ++ more) listed count table
  unfolding extend_refusal
  same_refusal = rw (inside, inside_first, ours, ours_first, as_long old listed count table first)

  pub same_answer : extending (old ++ more) steps number between ≡ extending (old ++ more) listed count table
  unfolding extending
  same_answer = rw same_refusal

  later : Behind (changed after) steps (length after)
  later = below_behind (changed after) steps (length after) longer

  -- the changes of all steps are those of the earlier ones and some behind them
  going_on : changes after ≡ changes before ++ later.rest
  going_on =
      later.joined
      ∙ ap (λ (l : List ℕ). l ++ later.rest)
      (sym (changes_front after steps longer) ∙ ap changes front_again)

  pub same_table : (extending (old ++ more) listed count table).refusal ≡ 0
      → extended (old ++ more) steps number between ≡ extended (old ++ more) listed count table
  same_table unrefused =
      let whole = taken (old ++ more) listed count table unrefused in
      let again =
      taken (old ++ more) steps number between (ap (λ (g : Grown). g.refusal) same_answer ∙ unrefused) in
      let fewer = few old listed count table first in
      again.content
      ∙ sets_joined (drop count (changes before)) later.rest table between
      (sets between number (drop number (changes after))) count first.content (behind fewer)
      ∙ ap (sets table count)
      (sym (drop-append-le count (changes before) later.rest fewer) ∙ ap (drop count) (sym going_on))
      ∙ sym whole.content
    where
      behind : count ≤ length (changes before)
          → sets between number (drop number (changes after))
          ≡ sets between (count + length (drop count (changes before))) later.rest
      behind fewer =
          let e : number ≡ count + length (drop count (changes before)) =
          (let n = number_is in simp length-drop (omega arith)) in
          ap (sets between number)
          (ap (drop number) going_on
          ∙ ap (λ (k : ℕ). drop k (changes before ++ later.rest)) number_is
          ∙ drop-append_seam (changes before) later.rest)
          ∙ ap (λ (k : ℕ). sets between k later.rest) e
