-- What extending answers and leaves in the table, by the first refusal that applies.
use mathlib.Core.Path.{◌≡◌, refl, sym, ap, ◌∙◌}
use mathlib.Core.Bool.{Bool, true, false, not}
use mathlib.Core.List.{List, [], ◌∷◌}
use Prim.Native.Nat.{ℕ, ◌+◌, ◌≤◌}
use native.Mathlib.Omega.{arith}
use lib.Dec.{ltb}
use lib.ListN.{length, take, drop, get_or}
use borrow.Author.Tests.{ne_eqb, ltb-false}
use Rattle.std.specs.Prelude.{Result, Ok, Err}
use Rattle.std.proofs.lemmas.List.{take-map}
use Rattle.std.proofs.lemmas.Bool.Decides.{nat_tests}
use lib.Seq.{sets}
use Rattle.basics.specs.Answer.{Answers}
use Rattle.basics.specs.First.{◌when◌, first_of}
use Rattle.basics.specs.Refusal.{refusal_number}
use Rattle.basics.specs.declared.refusal.Refusal.{Refusal}
use Rattle.basics.specs.declared.refusal.Refusal.TheVariants.{SwitchesOther, SwitchesRoom}
use Rattle.basics.proofs.First.{first_before, first_behind}
use Rattle.basics.proofs.Refusals.{number_some}
use Rattle.switches.specs.Changes.{sent_in, changes}
use Rattle.switches.specs.Extend.{steps_faults, lists, extend_refusal, extending_told, extending_case, extending, extended}
use Rattle.switches.specs.Walk.{sent_of, first_changes, Rows, Fits, Put}
use Rattle.switches.proofs.Listed.{listed_count}
use Rattle.switches.proofs.Refusals.{refused_is}
use Rattle.switches.proofs.Walking.{sent_many, first_few}

-- the first rows send what the first steps do
front_sent : {bytes : List ℕ} {steps : ℕ} {rows : List (List ℕ)} → Rows bytes steps rows
    → sent_of (take steps rows) ≡ take steps (sent_in bytes)
front_sent {steps = steps} {rows} r =
    sym (take-map (λ (l : List ℕ). get_or l 2 0) steps rows) ∙ ap (take steps) r.sent

add_less : (base a b : ℕ) → ltb a b ≡ ltb (base + a) (base + b)
add_less base a b = grind (arith, nat_tests)

pub put_few : {bytes : List ℕ} {steps : ℕ} {rows : List (List ℕ)} {known number : ℕ} {table after : List ℕ}
    → Rows bytes steps rows → Put rows known number table after → number ≤ 16384
put_few {rows = rows} r put =
    let many = put.count in
    let small = r.small in
    omega (arith, first_few rows (length (sent_of rows)), sent_many rows)

module _ (bytes : List ℕ) (listed count : ℕ) (table : List ℕ) where
  -- what a call promises
  abbrev pub Promised : Result ℕ Refusal → List ℕ → Type 0
  Promised r after =
      Answers extending_told extending_case (extending bytes listed count table) r
      × (after ≡ extended bytes listed count table)

  refused : (e : Refusal) → refusal_number e ≡ extend_refusal bytes listed count table → Promised (Err e) table
  unfolding extending extended
  refused e is =
      rw (← is, ne_eqb (refusal_number e) 0 (number_some e))
      (record { numbers = refl; decided = refused_is e 0 }, refl)

  -- refusals 8, 9, 13
  pub steps_refused : (e : Refusal) → refusal_number e ≡ first_of (steps_faults bytes listed) → Promised (Err e) table
  unfolding extend_refusal
  steps_refused e is =
      refused e
      (is
      ∙ sym
      (first_before (steps_faults bytes listed)
      ((16 when not (lists table count (take listed (sent_in bytes))))
      ∷ (12 when ltb (length table) (length (changes (sent_in bytes))))
      ∷ []) (λ none. number_some e (is ∙ none))))

  module _ {rows : List (List ℕ)} (r : Rows bytes listed rows) (none : 0 ≡ first_of (steps_faults bytes listed)) where
    abbrev ours : Bool
    ours = lists table count (take listed (sent_in bytes))

    abbrev short : Bool
    short = ltb (length table) (length (changes (sent_in bytes)))

    behind : extend_refusal bytes listed count table ≡ first_of ((16 when not ours) ∷ (12 when short) ∷ [])
    unfolding extend_refusal
    behind = first_behind (steps_faults bytes listed) ((16 when not ours) ∷ (12 when short) ∷ []) refl (sym none)

    module _ {answer : Bool} (is : answer ≡ lists table count (sent_of (take listed rows))) where
      same : ours ≡ answer
      same = ap (lists table count) (sym (front_sent r)) ∙ sym is

      pub list_refused : answer ≡ false → Promised (Err SwitchesOther) table
      list_refused other = refused SwitchesOther (sym (behind ∙ rw (same, other)))

      module _ (theirs : answer ≡ true) where
        counts : count ≡ length (first_changes (sent_in bytes) listed)
        counts =
            listed_count (sent_in bytes) listed table count (omega (arith, sent_many rows, ap length r.sent, r.inside))
            (same ∙ theirs)

        module _ {more : Bool}
            (m : more ≡ ltb (length (first_changes (sent_of rows) listed) + length table) (count + length (changes (sent_of rows)))) where
          -- the test of the room is whether the table is too short
          more_is : short ≡ more
          more_is =
              add_less count (length table) (length (changes (sent_in bytes)))
              ∙ ap (λ (k : ℕ). ltb (k + length table) (count + length (changes (sent_in bytes)))) counts
              ∙ ap (λ (s : List ℕ). ltb (length (first_changes s listed) + length table) (count + length (changes s))) (sym r.sent)
              ∙ sym m

          pub room_refused : more ≡ true → Promised (Err SwitchesRoom) table
          room_refused over = refused SwitchesRoom (sym (behind ∙ rw (same, theirs, more_is, over)))

          module _ (enough : more ≡ false) where
            pub fits : Fits rows listed count table
            fits =
                record {
                  inside = r.inside;
                  small = r.small;
                  count = counts ∙ ap (λ (s : List ℕ). length (first_changes s listed)) (sym r.sent);
                  room =
                      let e = ap (λ (s : List ℕ). length (changes s)) r.sent in
                      let fewer = ltb-false (length table) (length (changes (sent_in bytes))) (more_is ∙ enough) in
                      omega arith;
                }

            pub all_put : (number : ℕ) (after : List ℕ) → Put rows count number table after → Promised (Ok number) after
            unfolding extending extended
            all_put number after put =
                let taken : extend_refusal bytes listed count table ≡ 0 = behind ∙ rw (same, theirs, more_is, enough) in
                let many = put.count ∙ ap (λ (s : List ℕ). length (changes s)) r.sent in
                let content = put.content ∙ ap (λ (s : List ℕ). sets table count (drop count (changes s))) r.sent in
                rw (taken, ← many) (record { numbers = refl; decided = refl }, content)
