-- The sent K1 of a capture's steps; and what the first steps of a capture have of its changes.
use mathlib.Core.Path.{◌≡◌, refl, sym, ap, ◌∙◌}
use mathlib.Core.Bool.{true}
use mathlib.Core.List.{List, [], ◌∷◌, ◌++◌}
use Prim.Native.Nat.{ℕ, zero, suc, ◌+◌, ◌-◌, ◌*◌, ◌/◌, ◌%◌, ◌≤◌, ◌<◌}
use native.Mathlib.Numerals.{add-one}
use native.Mathlib.Omega.{arith}
use lib.Dec.{eqb}
use lib.ListN.{length, get_or, take}
use lib.Seq.{get_or-take, length-take-le}
use borrow.Author.Tests.{eqb-false, not-true, ne_eqb}
use Rattle.std.specs.Simd.{first_chunks}
use Rattle.switches.specs.Changes.{below◌such_that◌, sent_in, changed, changes, Stands}
use Rattle.switches.specs.Walk.{sent_of}
use Rattle.switches.proofs.Below.{below_in, below_all, below_rising, below_same}

pub sent_long : (bytes : List ℕ) → length (sent_in bytes) ≡ length bytes / 4
unfolding sent_in
sent_long (a ∷ b ∷ c ∷ d ∷ rest) = let e = sent_long rest in omega arith
sent_long (a ∷ b ∷ c ∷ []) = omega arith
sent_long (a ∷ b ∷ []) = omega arith
sent_long (a ∷ []) = omega arith
sent_long [] = omega arith

-- the rows of four bytes send what the bytes do
pub sent_rows : (bytes : List ℕ) → sent_of (first_chunks 4 (length bytes / 4) bytes) ≡ sent_in bytes
unfolding sent_in
sent_rows (a ∷ b ∷ c ∷ d ∷ rest) =
    let more : length (a ∷ b ∷ c ∷ d ∷ rest) / 4 ≡ suc (length rest / 4) = omega arith in
    rw more (ap (λ (l : List ℕ). c ∷ l) (sent_rows rest))
sent_rows (a ∷ b ∷ c ∷ []) = refl
sent_rows (a ∷ b ∷ []) = refl
sent_rows (a ∷ []) = refl
sent_rows [] = refl

pub sent_at : (bytes : List ℕ) (step : ℕ) → length bytes % 4 ≡ 0 → get_or (sent_in bytes) step 0 ≡ get_or bytes (4 * step + 2) 0
unfolding sent_in
sent_at (a ∷ b ∷ c ∷ d ∷ rest) zero whole = refl
sent_at (a ∷ b ∷ c ∷ d ∷ rest) (suc step) whole =
    let e : 4 * suc step + 2 ≡ suc (suc (suc (suc (4 * step + 2)))) = omega arith in
    sent_at rest step (omega arith) ∙ ap (λ (k : ℕ). get_or (a ∷ b ∷ c ∷ d ∷ rest) k 0) (sym e)
sent_at (a ∷ b ∷ c ∷ []) step whole = absurd (omega arith)
sent_at (a ∷ b ∷ []) step whole = absurd (omega arith)
sent_at (a ∷ []) step whole = absurd (omega arith)
sent_at [] step whole = refl

pub sent_appended : (old more : List ℕ) → length old % 4 ≡ 0 → sent_in (old ++ more) ≡ sent_in old ++ sent_in more
unfolding sent_in
sent_appended (a ∷ b ∷ c ∷ d ∷ rest) more whole =
    ap (λ (l : List ℕ). c ∷ l) (sent_appended rest more (omega arith))
sent_appended (a ∷ b ∷ c ∷ []) more whole = absurd (omega arith)
sent_appended (a ∷ b ∷ []) more whole = absurd (omega arith)
sent_appended (a ∷ []) more whole = absurd (omega arith)
sent_appended [] more whole = refl

pub before_next : (sent : List ℕ) (step : ℕ) → get_or (0 ∷ sent) (step + 1) 0 ≡ get_or sent step 0
before_next sent step = rw (add-one step)

pub before_back : (sent : List ℕ) (step : ℕ) → (step ≡ 0 → ⊥) → get_or sent (step - 1) 0 ≡ get_or (0 ∷ sent) step 0
before_back sent step some =
    let e : step - 1 + 1 ≡ step = omega arith in
    sym (before_next sent (step - 1)) ∙ ap (λ (k : ℕ). get_or (0 ∷ sent) k 0) e

changed_front : (sent : List ℕ) (k step : ℕ) → step < k → changed (take k sent) step ≡ changed sent step
unfolding changed
changed_front sent k zero h = rw (get_or-take k sent 0 0 h)
changed_front sent k (suc step) h =
    rw (get_or-take k sent (suc step) 0 h, get_or-take k sent step 0 (omega arith))

-- the changes among the first steps
pub changes_front : (sent : List ℕ) (k : ℕ) → k ≤ length sent
    → changes (take k sent) ≡ (below k such_that (changed sent))
changes_front sent k h =
    ap (λ (m : ℕ). below m such_that (changed (take k sent))) (length-take-le k sent h)
    ∙ below_same (changed (take k sent)) (changed sent) k (changed_front sent k)

-- a listed step is one whose sent K1 is another than the one before
pub listed_change : (sent : List ℕ) (step : ℕ) → Stands step (changes sent)
    → (step < length sent) × (get_or sent step 0 ≡ get_or (0 ∷ sent) step 0 → ⊥)
unfolding changed
listed_change sent step s =
    let inside = below_in (changed sent) (length sent) s.0 s.1 in
    let e = s.2 in
    let is : changed sent step ≡ true = ap (changed sent) (sym e) ∙ inside.1 in (
      omega (arith, inside.0),
      eqb-false (get_or sent step 0) (get_or (0 ∷ sent) step 0) (not-true (eqb (get_or sent step 0) (get_or (0 ∷ sent) step 0)) is),
    )

pub change_listed : (sent : List ℕ) (step : ℕ) → step < length sent → (get_or sent step 0 ≡ get_or (0 ∷ sent) step 0 → ⊥)
    → Stands step (changes sent)
unfolding changed
change_listed sent step h other =
    below_all (changed sent) (length sent) step h (rw (ne_eqb (get_or sent step 0) (get_or (0 ∷ sent) step 0) other))

pub changes_rise : (sent : List ℕ) (i j : ℕ) → i < j → j < length (changes sent)
    → get_or (changes sent) i 0 < get_or (changes sent) j 0
changes_rise sent = below_rising (changed sent) (length sent)
