-- The walk over the steps: what is known at each of them, and of the changes up to there.
use mathlib.Core.Path.{◌≡◌, sym, ap, ◌∙◌}
use mathlib.Core.Bool.{Bool, true, false, not}
use mathlib.Core.List.{List, [], ◌∷◌, ◌++◌, append-nil}
use Prim.Native.Nat.{ℕ, suc, ◌+◌, ◌-◌, ◌≤◌, ◌<◌}
use native.Mathlib.Omega.{arith}
use lib.Dec.{eqb}
use lib.ListN.{length, get_or, take, length-append, get_or-map, length-map}
use lib.Seq.{get_or-take, length-take-le}
use borrow.Author.Tests.{ne_eqb, eq-eqb}
use Rattle.std.specs.Prelude.{if◌then◌else◌}
use Rattle.std.proofs.lemmas.List.{take-map}
use Rattle.switches.specs.Changes.{changed}
use Rattle.switches.specs.Walk.{sent_of, first_changes}
use Rattle.switches.proofs.Below.{tail, below_next, below_few, below_steps, below_behind}
use Rattle.switches.proofs.Sent.{before_next}

-- the sent K1 of a step
abbrev pub here : List (List ℕ) → ℕ → ℕ
here rows step = get_or (get_or rows step []) 2 0

pub sent_here : (rows : List (List ℕ)) (step : ℕ) → get_or (sent_of rows) step 0 ≡ here rows step
sent_here rows step = get_or-map (λ (r : List ℕ). get_or r 2 0) rows step []

pub sent_many : (rows : List (List ℕ)) → length (sent_of rows) ≡ length rows
sent_many rows = length-map rows (λ (r : List ℕ). get_or r 2 0)

-- at a step; `before` was sent in the step before it
pub record At (rows : List (List ℕ)) (before step : ℕ) : Type 0 where
  pub within : step ≤ length rows
  pub prior : before ≡ get_or (0 ∷ sent_of rows) step 0

-- at the step behind those of which the last one's byte is known
pub at_start : (rows : List (List ℕ)) (from : ℕ) {before : ℕ} → from ≤ length rows
    → before ≡ get_or (0 ∷ sent_of (take from rows)) (length (take from rows)) 0 → At rows before from
at_start rows from {before} inside prior =
    record {
      within = inside;
      prior =
          prior
          ∙ ap (λ (k : ℕ). get_or (0 ∷ sent_of (take from rows)) k 0) (length-take-le from rows inside)
          ∙ ap (λ (l : List ℕ). get_or (0 ∷ l) from 0) (sym (take-map (λ (r : List ℕ). get_or r 2 0) from rows))
          ∙ get_or-take (suc from) (0 ∷ sent_of rows) from 0 (omega arith);
    }

module _ {rows : List (List ℕ)} {before step : ℕ} (at : At rows before step) where
  -- the test of the step is whether its byte differs
  pub tested : not (eqb (here rows step) before) ≡ changed (sent_of rows) step
  unfolding changed
  tested = rw (sent_here rows step, ← at.prior)

  pub differs : (here rows step ≡ before → ⊥) → changed (sent_of rows) step ≡ true
  differs other = sym tested ∙ rw (ne_eqb (here rows step) before other)

  pub agrees : here rows step ≡ before → changed (sent_of rows) step ≡ false
  agrees same = sym tested ∙ rw (eq-eqb (here rows step) before same)

  pub at_next : step < length rows → At rows (here rows step) (step + 1)
  at_next h = record { within = omega arith; prior = sym (before_next (sent_of rows) step ∙ sent_here rows step) }

module _ (rows : List (List ℕ)) where
  abbrev test : ℕ → Bool
  test = changed (sent_of rows)

  first_next : (step : ℕ) → first_changes (sent_of rows) (step + 1) ≡ first_changes (sent_of rows) step ++ tail (test step) step
  first_next = below_next test

  pub first_same : (step : ℕ) → test step ≡ false → first_changes (sent_of rows) (step + 1) ≡ first_changes (sent_of rows) step
  first_same step stays =
      first_next step
      ∙ ap (λ (t : Bool). first_changes (sent_of rows) step ++ tail t step) stays
      ∙ append-nil (first_changes (sent_of rows) step)

  pub first_more : (step : ℕ) → test step ≡ true → first_changes (sent_of rows) (step + 1) ≡ first_changes (sent_of rows) step ++ (step ∷ [])
  first_more step counts = first_next step ∙ ap (λ (t : Bool). first_changes (sent_of rows) step ++ tail t step) counts

  pub first_count : (step : ℕ) (t : Bool) → test step ≡ t
      → length (first_changes (sent_of rows) (step + 1))
      ≡ (if t then length (first_changes (sent_of rows) step) + 1 else length (first_changes (sent_of rows) step))
  first_count step true counts =
      ap length (first_more step counts) ∙ length-append (first_changes (sent_of rows) step) (step ∷ [])
  first_count step false stays = ap length (first_same step stays)

  pub first_few : (step : ℕ) → length (first_changes (sent_of rows) step) ≤ step
  first_few = below_few test

  -- of more steps there are no fewer changes
  pub first_fewer : (step more : ℕ) → step ≤ more
      → length (first_changes (sent_of rows) step) ≤ length (first_changes (sent_of rows) more)
  first_fewer step more h =
      let b = below_behind test step more h in
      omega (arith, ap length b.joined, length-append (first_changes (sent_of rows) step) b.rest)

  -- and no more further ones than further steps
  pub first_steps : (step more : ℕ) → step ≤ more
      → length (first_changes (sent_of rows) more) ≤ length (first_changes (sent_of rows) step) + (more - step)
  first_steps step more h = below_steps test step more h
