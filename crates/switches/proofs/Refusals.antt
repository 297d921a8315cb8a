-- The refusals in their order, and what is known where none applies.
use mathlib.Core.Path.{◌≡◌, refl, sym, ap, ◌∙◌}
use mathlib.Core.List.{List, [], ◌∷◌}
use Prim.Native.Nat.{ℕ, ◌/◌, ◌%◌, ◌≤◌, ◌<◌}
use native.Mathlib.Omega.{arith}
use lib.Dec.{ltb}
use lib.ListN.{length}
use borrow.Author.Tests.{ltb-false, ne_eqb, lt-ltb, le-ltb}
use Rattle.std.specs.Prelude.{Err}
use Rattle.std.specs.Simd.{first_chunks}
use Rattle.basics.specs.Capture.{most, size_faults}
use Rattle.basics.specs.First.{◌when◌, first_of}
use Rattle.basics.specs.Refusal.{refusal_number, refused_or}
use Rattle.basics.specs.declared.refusal.Refusal.{Refusal}
use Rattle.basics.proofs.First.{first_before, first_behind, none_both, none_exact}
use Rattle.basics.proofs.Fitting.{size_fits}
use Rattle.basics.proofs.Refusals.{with_number, number_some}
use Rattle.switches.specs.Changes.{sent_in, changed, changes}
use Rattle.switches.specs.Extend.{steps_faults}
use Rattle.switches.specs.Walk.{sent_of, Rows}
use Rattle.switches.proofs.Below.{below_few}
use Rattle.switches.proofs.Sent.{sent_long, sent_rows}
use Rattle.switches.proofs.Walking.{sent_many}

-- a refusal's number calls for it
pub refused_is : {A : Type 0} (e : Refusal) (value : A) → Err e ≡ refused_or (refusal_number e) value
refused_is e value = rw (ne_eqb (refusal_number e) 0 (number_some e)) (ap Err (sym (with_number e)))

-- a capture of whole steps, these or more of them
pub record Walks (bytes : List ℕ) (steps : ℕ) : Type 0 where
  pub whole : length bytes % 4 ≡ 0
  pub small : length bytes ≤ most
  pub inside : steps ≤ length (sent_in bytes)

pub few_changes : (bytes : List ℕ) {steps : ℕ} → Walks bytes steps → length (changes (sent_in bytes)) ≤ 16384
few_changes bytes w =
    let small = w.small in
    omega (arith, sent_long bytes, below_few (changed (sent_in bytes)) (length (sent_in bytes)))

-- refusals 8, 9, 13
module _ (bytes : List ℕ) (steps : ℕ) where
  pub size_refused : (first_of (size_faults (length bytes)) ≡ 0 → ⊥)
      → first_of (steps_faults bytes steps) ≡ first_of (size_faults (length bytes))
  size_refused = first_before (size_faults (length bytes)) ((13 when ltb (length (sent_in bytes)) steps) ∷ [])

  behind : first_of (size_faults (length bytes)) ≡ 0
      → first_of (steps_faults bytes steps) ≡ first_of ((13 when ltb (length (sent_in bytes)) steps) ∷ [])
  behind = first_behind (size_faults (length bytes)) ((13 when ltb (length (sent_in bytes)) steps) ∷ []) refl

  pub few_refused : first_of (size_faults (length bytes)) ≡ 0 → length bytes / 4 < steps
      → 13 ≡ first_of (steps_faults bytes steps)
  few_refused size few = sym (behind size ∙ rw (sent_long bytes, lt-ltb (length bytes / 4) steps few))

  pub steps_taken : first_of (size_faults (length bytes)) ≡ 0 → steps ≤ length bytes / 4
      → 0 ≡ first_of (steps_faults bytes steps)
  steps_taken size enough = sym (behind size ∙ rw (sent_long bytes, le-ltb (length bytes / 4) steps enough))

  pub steps_walk : first_of (steps_faults bytes steps) ≡ 0 → Walks bytes steps
  steps_walk none =
      let parts = none_both (size_faults (length bytes)) ((13 when ltb (length (sent_in bytes)) steps) ∷ []) refl none in
      let size = size_fits (length bytes) parts.0 in
      record {
        whole = size.0;
        small = size.1;
        inside = ltb-false (length (sent_in bytes)) steps ((none_exact ((13 when ltb (length (sent_in bytes)) steps) ∷ []) refl).0 parts.1 0);
      }

  pub rows_taken : {rows : List (List ℕ)} → first_of (size_faults (length bytes)) ≡ 0
      → rows ≡ first_chunks 4 (length bytes / 4) bytes → steps ≤ length rows → Rows bytes steps rows
  rows_taken {rows} size is enough =
      let small = (size_fits (length bytes) size).1 in
      let same : sent_of rows ≡ sent_in bytes = ap sent_of is ∙ sent_rows bytes in
      record {
        sent = same;
        inside = enough;
        small = omega (arith, sent_many rows, ap length same, sent_long bytes);
      }
