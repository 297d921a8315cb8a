-- What looking up the last change answers, by the first refusal that applies.
use mathlib.Core.Path.{◌≡◌, refl, sym, ap, ◌∙◌}
use mathlib.Core.Bool.{Bool, true, false, not}
use mathlib.Core.List.{List, [], ◌∷◌, ◌++◌}
use mathlib.Core.Logic.{⊎_elim}
use Prim.Native.Nat.{ℕ, ◌+◌, ◌-◌, ◌≤◌, ◌<◌}
use native.Mathlib.Nat.{add-zero}
use native.Mathlib.Omega.{arith}
use lib.Dec.{leb}
use lib.ListN.{length, get_or, take, length-append, get_or-append}
use lib.Seq.{get_or-append-add, take-append_seam}
use borrow.Author.Tests.{ne_eqb, leb-true, leb-false}
use Rattle.std.specs.Prelude.{Result, Ok, Err, Option, None, Some, slice_get}
use Rattle.std.proofs.lemmas.Option.{gets}
use Rattle.std.specs.List.Sorted.{IsNonDecreasingBy, IsPartitionPoint}
use Rattle.std.proofs.lemmas.List.Sorted.{IsNonDecreasingBy-from_default}
use Rattle.std.proofs.lemmas.Bool.{cases_lt}
use Rattle.basics.specs.Answer.{Answers}
use Rattle.basics.specs.First.{◌when◌, first_of}
use Rattle.basics.specs.Refusal.{refusal_number}
use Rattle.basics.specs.declared.refusal.Refusal.{Refusal}
use Rattle.basics.specs.declared.refusal.Refusal.TheVariants.{SwitchesOther}
use Rattle.basics.proofs.First.{first_before, first_behind}
use Rattle.basics.proofs.Refusals.{number_some}
use Rattle.switches.specs.Changes.{below◌such_that◌, sent_in, changed, changes}
use Rattle.switches.specs.Extend.{steps_faults, alike}
use Rattle.switches.specs.LastChange.{look_faults, looking_told, looking_case, last_of, looking}
use Rattle.switches.specs.Walk.{sent_of, Rows}
use Rattle.switches.proofs.Alike.{alike_equal}
use Rattle.switches.proofs.Below.{below_in, below_rising, below_behind, Behind}
use Rattle.switches.proofs.Refusals.{refused_is}
use Rattle.switches.proofs.Walking.{sent_many}

pub last_none : (list : List ℕ) → length list ≡ 0 → last_of list ≡ record { refusal = 0; found = 0; step = 0 }
last_none [] e = refl
last_none (c ∷ more) e = absurd (omega arith)

pub last_some : (list : List ℕ) → (length list ≡ 0 → ⊥)
    → last_of list ≡ record { refusal = 0; found = 1; step = get_or list (length list - 1) 0 }
last_some [] some = absurd (some refl)
last_some (c ∷ more) some =
    let e : length more ≡ length (c ∷ more) - 1 = omega arith in
    ap (λ (k : ℕ). record { refusal = 0; found = 1; step = get_or (c ∷ more) k 0 }) e

-- the last of a list as an option
last_told : (list : List ℕ) → Answers looking_told looking_case (last_of list) (Ok (slice_get list (length list - 1)))
last_told [] = record { numbers = refl; decided = refl }
last_told (c ∷ more) =
    let e : length (c ∷ more) - 1 ≡ length more = omega arith in
    let some : slice_get (c ∷ more) (length more) ≡ Some (get_or (c ∷ more) (length more) 0) = grind (arith, gets) in
    rw (e, some) (record { numbers = refl; decided = refl })

module _ (bytes list : List ℕ) (step : ℕ) where
  -- what a call promises
  abbrev pub Promised : Result (Option ℕ) Refusal → Type 0
  Promised r = Answers looking_told looking_case (looking bytes list step) r

  refused : (e : Refusal) → refusal_number e ≡ first_of (look_faults bytes list step) → Promised (Err e)
  unfolding looking
  refused e is =
      rw (← is, ne_eqb (refusal_number e) 0 (number_some e))
      (record { numbers = refl; decided = refused_is e None })

  -- refusals 8, 9, 13
  pub steps_refused : (e : Refusal) → refusal_number e ≡ first_of (steps_faults bytes (step + 1)) → Promised (Err e)
  steps_refused e is =
      refused e
      (is
      ∙ sym
      (first_before (steps_faults bytes (step + 1)) ((16 when not (alike list (changes (sent_in bytes)))) ∷ [])
      (λ none. number_some e (is ∙ none))))

  -- the changes up to and with the step
  abbrev passing : List ℕ
  passing = below (step + 1) such_that (changed (sent_in bytes))

  module _ {rows : List (List ℕ)} (r : Rows bytes (step + 1) rows) (none : 0 ≡ first_of (steps_faults bytes (step + 1)))
      {ours : Bool} (is : ours ≡ alike list (changes (sent_of rows))) where
    same : alike list (changes (sent_in bytes)) ≡ ours
    same = ap (λ (s : List ℕ). alike list (changes s)) (sym r.sent) ∙ sym is

    behind : first_of (look_faults bytes list step) ≡ first_of ((16 when not (alike list (changes (sent_in bytes)))) ∷ [])
    behind =
        first_behind (steps_faults bytes (step + 1)) ((16 when not (alike list (changes (sent_in bytes)))) ∷ []) refl (sym none)

    pub list_refused : ours ≡ false → Promised (Err SwitchesOther)
    list_refused other = refused SwitchesOther (sym (behind ∙ rw (same, other)))

    module _ (theirs : ours ≡ true) where
      equal : list ≡ changes (sent_in bytes)
      equal = alike_equal list (changes (sent_in bytes)) (same ∙ theirs)

      rising : (i j : ℕ) → i < j → j < length list → get_or list i 0 < get_or list j 0
      rising = rw equal (below_rising (changed (sent_in bytes)) (length (sent_in bytes)))

      pub not_falling : IsNonDecreasingBy (λ (x : ℕ). x) list
      not_falling = IsNonDecreasingBy-from_default (λ (x : ℕ). x) list 0 rises
        where
          rises : (i j : ℕ) → i ≤ j → j < length list → get_or list i 0 ≤ get_or list j 0
          rises i j h inside =
              ⊎_elim (λ (less : i < j). omega (arith, rising i j less inside))
              (λ (more : j ≤ i).
              let e : i ≡ j = omega arith in
              rw e (omega arith))
              (cases_lt i j)

      further : Behind (changed (sent_in bytes)) (step + 1) (length (sent_in bytes))
      further =
          below_behind (changed (sent_in bytes)) (step + 1) (length (sent_in bytes))
          (omega (arith, sent_many rows, ap length r.sent, r.inside))

      parts : list ≡ passing ++ further.rest
      parts = equal ∙ further.joined

      long : length list ≡ length passing + length further.rest
      long = ap length parts ∙ length-append passing further.rest

      entry : (i : ℕ) → i < length passing → get_or list i 0 ≡ get_or passing i 0
      entry i h = ap (λ (l : List ℕ). get_or l i 0) parts ∙ get_or-append passing further.rest 0 i h

      entry_behind : (i : ℕ) → get_or list (length passing + i) 0 ≡ get_or further.rest i 0
      entry_behind i =
          ap (λ (l : List ℕ). get_or l (length passing + i) 0) parts ∙ get_or-append-add passing further.rest i 0

      module _ (number : ℕ) (within : number ≤ length list)
          (point : IsPartitionPoint (λ (y : ℕ). leb y step ≡ true) (λ (y : ℕ). leb y step ≡ false) list number) where
        -- those that were passed are the changes up to and with the step
        reached : number ≡ length passing
        reached =
            ⊎_elim
            (λ (h : number < length passing).
            let e = entry number h in
            let low = (below_in (changed (sent_in bytes)) (step + 1) number h).0 in
            let l = long in
            absurd (omega (arith, leb-false (get_or list number 0) step (point.1 number 0 (omega arith) (omega arith)))))
            (λ (h : length passing ≤ number).
            ⊎_elim
            (λ (h' : length passing < number).
            let e : get_or list (length passing) 0 ≡ get_or further.rest 0 0 =
            (ap (λ (k : ℕ). get_or list k 0) (sym (add-zero (length passing))) ∙ entry_behind 0) in
            let l = long in
            let high = further.above 0 (omega arith) in
            absurd (omega (arith, leb-true (get_or list (length passing) 0) step (point.0 (length passing) 0 (omega arith) h'))))
            (λ (h' : number ≤ length passing). omega arith)
            (cases_lt (length passing) number))
            (cases_lt number (length passing))

        passed : take number list ≡ passing
        passed = ap (take number) parts ∙ ap (λ (k : ℕ). take k (passing ++ further.rest)) reached ∙ take-append_seam passing further.rest

        taken : first_of (look_faults bytes list step) ≡ 0
        taken = behind ∙ rw (same, theirs)

        pub looked : {last : Option ℕ} → last ≡ slice_get (take number list) (length (take number list) - 1)
            → Promised (Ok last)
        unfolding looking
        looked is = rw (taken, is, ← passed) (last_told (take number list))
