-- Counting the changes from a step on.
use mathlib.Core.Path.{◌≡◌, refl, sym, ap, ◌∙◌}
use mathlib.Core.Bool.{Bool, true, false, not}
use mathlib.Core.List.{List, [], ◌∷◌}
use Prim.Native.Nat.{ℕ, ◌+◌, ◌-◌, ◌≤◌, ◌<◌}
use native.Mathlib.Omega.{arith}
use lib.Dec.{eqb}
use lib.ListN.{length, length-append}
use mir.Val.{bool_byte}
use Rattle.switches.specs.Changes.{changes}
use Rattle.switches.specs.Walk.{sent_of, first_changes}
use Rattle.switches.proofs.Walking.{here, sent_many, At, tested, at_next, first_same, first_more, first_few, first_steps}

bit_few : (t : Bool) → bool_byte t ≤ 1
bit_few true = omega arith
bit_few false = omega arith

pub record Counting (rows : List (List ℕ)) (from before number step : ℕ) : Type 0 where
  pub at : At rows before step
  pub count : length (first_changes (sent_of rows) step) ≡ length (first_changes (sent_of rows) from) + number

module _ {rows : List (List ℕ)} {from before number step : ℕ} (k : Counting rows from before number step) where
  abbrev test : Bool
  test = not (eqb (here rows step) before)

  pub counting_few : number + bool_byte test ≤ step + 1
  counting_few =
      let count = k.count in
      omega (arith, first_few rows step, bit_few test)

  pub counting_next : step < length rows → Counting rows from (here rows step) (number + bool_byte test) (step + 1)
  counting_next h = record { at = at_next k.at h; count = go test refl }
    where
      go : (t : Bool) → test ≡ t
          → length (first_changes (sent_of rows) (step + 1)) ≡ length (first_changes (sent_of rows) from) + (number + bool_byte t)
      go true is =
          let count = k.count in
          let more = first_more rows step (sym (tested k.at) ∙ is) in
          omega (arith, ap length more, length-append (first_changes (sent_of rows) step) (step ∷ []))
      go false is =
          let count = k.count in
          let same = first_same rows step (sym (tested k.at) ∙ is) in
          omega (arith, ap length same)

-- the changes of all steps are no more than those of the first ones and one for each other
pub few_left : (rows : List (List ℕ)) (from : ℕ) → from ≤ length rows
    → length (changes (sent_of rows)) ≤ length (first_changes (sent_of rows) from) + (length rows - from)
few_left rows from inside =
    let many = sent_many rows in
    omega (arith, first_steps rows from (length (sent_of rows)) (omega arith))
