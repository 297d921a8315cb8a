-- What it means that a list that is handed in is that of the first steps.
use mathlib.Core.Path.{◌≡◌, refl, sym, ap, ◌∙◌}
use mathlib.Core.Bool.{Bool, true, false, ◌&&◌, and-eq-true_iff}
use mathlib.Core.List.{List}
use Prim.Native.Nat.{ℕ, ◌≤◌, ◌<◌}
use lib.Dec.{leb}
use lib.ListN.{length, take}
use lib.Seq.{length-take-le}
use borrow.Author.Tests.{leb-true, le-leb, lt-leb}
use Rattle.switches.specs.Extend.{alike, lists}
use Rattle.switches.specs.Walk.{first_changes}
use Rattle.switches.proofs.Alike.{alike_equal, alike_self}
use Rattle.switches.proofs.Sent.{changes_front}

module _ (sent : List ℕ) (steps : ℕ) (table : List ℕ) (count : ℕ) where
  abbrev answer : Bool
  answer = lists table count (take steps sent)

  pub lists_short : length table < count → false ≡ answer
  lists_short h = rw (lt-leb count (length table) h)

  module _ (inside : steps ≤ length sent) where
    -- the answer in the changes of the first steps
    front : answer ≡ leb count (length table) && alike (take count table) (first_changes sent steps)
    front =
        ap (λ (l : List ℕ). leb count (length table) && alike (take count table) l) (changes_front sent steps inside)

    pub lists_same : count ≤ length table → take count table ≡ first_changes sent steps → answer ≡ true
    lists_same enough e =
        front ∙ rw (le-leb count (length table) enough, e) (alike_self (first_changes sent steps))

    pub listed_equal : answer ≡ true → (count ≤ length table) × (take count table ≡ first_changes sent steps)
    listed_equal theirs =
        let both =
        (and-eq-true_iff (leb count (length table)) (alike (take count table) (first_changes sent steps))).0 (sym front ∙ theirs) in
        (leb-true count (length table) both.0, alike_equal (take count table) (first_changes sent steps) both.1)

    pub lists_other : (take count table ≡ first_changes sent steps → ⊥) → false ≡ answer
    lists_other other = go answer refl
      where
        go : (t : Bool) → answer ≡ t → false ≡ answer
        go true e = absurd (other (listed_equal e).1)
        go false e = sym e

    pub listed_count : answer ≡ true → count ≡ length (first_changes sent steps)
    listed_count theirs = sym (length-take-le count table (listed_equal theirs).0) ∙ ap length (listed_equal theirs).1
