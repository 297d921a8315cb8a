-- Laws of the numbers below a bound that pass a test: those that stand there are such numbers, and all of them; they rise;
-- and a higher bound puts more behind them.
use mathlib.Core.Path.{◌≡◌, refl, sym, ap, ◌∙◌}
use mathlib.Core.Bool.{Bool, true, false}
use mathlib.Core.List.{List, [], ◌∷◌, ◌++◌, append-nil, append_assoc}
use mathlib.Core.Logic.{◌⊎◌, inl, inr, ⊎_elim}
use Prim.Native.Nat.{ℕ, zero, suc, ◌+◌, ◌-◌, ◌≤◌, ◌<◌, zero-le}
use native.Mathlib.Nat.{not-suc-le-zero}
use native.Mathlib.Numerals.{add-one}
use native.Mathlib.Omega.{arith}
use lib.ListN.{length, get_or, length-append, get_or-append}
use lib.Seq.{get_or-append_seam}
use Rattle.std.proofs.lemmas.Bool.{cases_lt}
use Rattle.std.specs.Prelude.{if◌then◌else◌}
use Rattle.switches.specs.Changes.{below◌such_that◌, Stands}

-- what the next number adds
abbrev pub tail : Bool → ℕ → List ℕ
tail t k = if t then k ∷ [] else []

-- a place of a list with a tail is one of the list, or the one behind it
split_place : (list : List ℕ) (t : Bool) (k i : ℕ) → i < length (list ++ tail t k)
    → ((i < length list) × (get_or (list ++ tail t k) i 0 ≡ get_or list i 0))
    ⊎ ((i ≡ length list) × (t ≡ true) × (get_or (list ++ tail t k) i 0 ≡ k))
split_place list false k i h =
    let h' : i < length list = omega (arith, length-append list []) in
    inl (h', get_or-append list [] 0 i h')
split_place list true k i h =
    ⊎_elim
    (λ (h' : i < length list). inl (h', get_or-append list (k ∷ []) 0 i h'))
    (λ (h' : length list ≤ i).
    let e : i ≡ length list = omega (arith, length-append list (k ∷ [])) in
    inr (e, refl, ap (λ (j : ℕ). get_or (list ++ (k ∷ [])) j 0) e ∙ get_or-append_seam list k [] 0))
    (cases_lt i (length list))

module _ (test : ℕ → Bool) where
  pub below_next : (k : ℕ) → (below (k + 1) such_that test) ≡ (below k such_that test) ++ tail (test k) k
  unfolding below◌such_that◌
  below_next k = rw (add-one k)

  -- a higher bound by so much adds no more than that
  pub below_steps : (k m : ℕ) → k ≤ m → length (below m such_that test) ≤ length (below k such_that test) + (m - k)
  unfolding below◌such_that◌
  below_steps k zero h =
      let e : k ≡ 0 = omega arith in
      rw e (omega arith)
  below_steps k (suc m) h =
      ⊎_elim (λ (h' : k < suc m). later (test m) (omega arith) (below_steps k m (omega arith))) here (cases_lt k (suc m))
    where
      later : (t : Bool) → k ≤ m → length (below m such_that test) ≤ length (below k such_that test) + (m - k)
          → length ((below m such_that test) ++ tail t m) ≤ length (below k such_that test) + (suc m - k)
      later true h' ih = omega (arith, length-append (below m such_that test) (m ∷ []))
      later false h' ih = omega (arith, length-append (below m such_that test) [])

      here : suc m ≤ k → length (below (suc m) such_that test) ≤ length (below k such_that test) + (suc m - k)
      here h' =
          let e : k ≡ suc m = omega arith in
          rw e (omega arith)

  pub below_few : (k : ℕ) → length (below k such_that test) ≤ k
  unfolding below◌such_that◌
  below_few k = omega (arith, below_steps 0 k zero-le)

  -- each is below the bound, and passes
  pub below_in : (k i : ℕ) → i < length (below k such_that test) →
      let x = get_or (below k such_that test) i 0 in (x < k) × (test x ≡ true)
  unfolding below◌such_that◌
  below_in zero i h = absurd (not-suc-le-zero h)
  below_in (suc k) i h =
      ⊎_elim
      (λ old.
      let good = below_in k i old.0 in
      let e = old.1 in
      (omega (arith, good.0), ap test e ∙ good.1))
      (λ new. let e = new.2 in (omega arith, ap test e ∙ new.1))
      (split_place (below k such_that test) (test k) k i h)

  -- each that is below the bound and passes stands there
  pub below_all : (k x : ℕ) → x < k → test x ≡ true → Stands x (below k such_that test)
  unfolding below◌such_that◌
  below_all zero x h passes = absurd (not-suc-le-zero h)
  below_all (suc k) x h passes =
      ⊎_elim
      (λ (h' : x < k).
      let s = below_all k x h' passes in
      let list = below k such_that test in (
        s.0,
        omega (arith, s.1, length-append list (tail (test k) k)),
        get_or-append list (tail (test k) k) 0 s.0 s.1 ∙ s.2,
      ))
      (λ (h' : k ≤ x). last (omega arith))
      (cases_lt x k)
    where
      last : x ≡ k → Stands x ((below k such_that test) ++ tail (test k) k)
      last e =
          let list = below k such_that test in
          let passes' : test k ≡ true = ap test (sym e) ∙ passes in
          rw passes'
          (length list, omega (arith, length-append list (k ∷ [])), get_or-append_seam list k [] 0 ∙ sym e)

  pub below_rising : (k i j : ℕ) → i < j → j < length (below k such_that test)
      → get_or (below k such_that test) i 0 < get_or (below k such_that test) j 0
  unfolding below◌such_that◌
  below_rising zero i j h h' = absurd (not-suc-le-zero h')
  below_rising (suc k) i j h h' =
      let list = below k such_that test in
      let first : i < length list → get_or (list ++ tail (test k) k) i 0 ≡ get_or list i 0 =
      get_or-append list (tail (test k) k) 0 i in
      ⊎_elim
      (λ old.
      let in_list : i < length list = omega (arith, old.0) in
      let less = below_rising k i j h old.0 in
      let e = first in_list in
      let e' = old.1 in
      omega (arith, less))
      (λ new.
      let in_list : i < length list = omega (arith, new.0) in
      let e = first in_list in
      let e' = new.2 in
      omega (arith, (below_in k i in_list).0))
      (split_place list (test k) k j h')

  -- what a higher bound puts behind: none of it is below the lower one
  pub record Behind (k m : ℕ) : Type 0 where
    pub rest : List ℕ
    pub joined : (below m such_that test) ≡ (below k such_that test) ++ rest
    pub above : (i : ℕ) → i < length rest → k ≤ get_or rest i 0

  pub below_behind : (k m : ℕ) → k ≤ m → Behind k m
  unfolding below◌such_that◌
  below_behind k zero h =
      let e : k ≡ 0 = omega arith in
      record { rest = []; joined = rw e; above = λ i none. absurd (not-suc-le-zero none) }
  below_behind k (suc m) h = ⊎_elim (λ (h' : k < suc m). later (omega arith) (below_behind k m (omega arith))) here (cases_lt k (suc m))
    where
      later : k ≤ m → Behind k m → Behind k (suc m)
      later h' b =
          record {
            rest = b.rest ++ tail (test m) m;
            joined =
                ap (λ (l : List ℕ). l ++ tail (test m) m) b.joined
                ∙ append_assoc (below k such_that test) b.rest (tail (test m) m);
            above = λ i inside.
                ⊎_elim
                (λ old. let e = old.1 in omega (arith, b.above i old.0))
                (λ new. let e = new.2 in omega arith)
                (split_place b.rest (test m) m i inside);
          }

      here : suc m ≤ k → Behind k (suc m)
      here h' =
          let e : k ≡ suc m = omega arith in
          rw e (record { rest = []; joined = sym (append-nil (below (suc m) such_that test)); above = λ i none. absurd (not-suc-le-zero none) })

-- two tests that agree below the bound
pub below_same : (test test' : ℕ → Bool) (k : ℕ) → ((i : ℕ) → i < k → test i ≡ test' i)
    → (below k such_that test) ≡ (below k such_that test')
unfolding below◌such_that◌
below_same test test' zero same = refl
below_same test test' (suc k) same =
    ap (λ (l : List ℕ). l ++ tail (test k) k) (below_same test test' k (λ i h. same i (omega arith)))
    ∙ ap (λ (t : Bool). (below k such_that test') ++ tail t k) (same k (omega arith))
