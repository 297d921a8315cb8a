-- Holding a list that is handed in against the changes of some steps.
use mathlib.Core.Path.{◌≡◌, refl, sym, ap, ◌∙◌}
use mathlib.Core.Bool.{Bool, true, false}
use mathlib.Core.List.{List, [], ◌∷◌, ◌++◌, append-nil, append_assoc}
use Prim.Native.Nat.{ℕ, ◌+◌, ◌≤◌, ◌<◌, zero-le}
use native.Mathlib.Omega.{arith}
use lib.Dec.{eqb}
use lib.ListN.{length, get_or, length-append}
use borrow.Author.Tests.{eqb-true, eqb-false}
use Rattle.std.proofs.lemmas.List.{append_cancel_left, nil_from_length}
use Rattle.switches.specs.Changes.{below◌such_that◌, changed, changes}
use Rattle.switches.specs.Extend.{alike}
use Rattle.switches.specs.Walk.{sent_of, first_changes}
use Rattle.switches.proofs.Alike.{alike_equal, alike_self}
use Rattle.switches.proofs.Below.{below_behind}
use Rattle.switches.proofs.Walking.{here, sent_many, At, differs, agrees, at_next, first_same, first_more}

pub record Checking (rows : List (List ℕ)) (list rest : List ℕ) (before step : ℕ) : Type 0 where
  pub at : At rows before step
  pub entries : list ≡ first_changes (sent_of rows) step ++ rest

pub checking_start : (rows : List (List ℕ)) (list : List ℕ) → Checking rows list list 0 0
unfolding below◌such_that◌
checking_start rows list = record { at = record { within = zero-le; prior = refl }; entries = refl }

-- a list that is not the changes is not alike
not_alike : (list changes : List ℕ) → (list ≡ changes → ⊥) → false ≡ alike list changes
not_alike list changes other = go (alike list changes) refl
  where
    go : (t : Bool) → alike list changes ≡ t → false ≡ alike list changes
    go true e = absurd (other (alike_equal list changes e))
    go false e = sym e

module _ {rows : List (List ℕ)} {list rest : List ℕ} {before step : ℕ} (k : Checking rows list rest before step) where
  pub checking_same : step < length rows → here rows step ≡ before → Checking rows list rest (here rows step) (step + 1)
  checking_same h same =
      record {
        at = at_next k.at h;
        entries = k.entries ∙ ap (λ (l : List ℕ). l ++ rest) (sym (first_same rows step (agrees k.at same)));
      }

  module _ (h : step < length rows) (other : here rows step ≡ before → ⊥) where
    more : first_changes (sent_of rows) (step + 1) ≡ first_changes (sent_of rows) step ++ (step ∷ [])
    more = first_more rows step (differs k.at other)

    pub checking_more : {behind : List ℕ} {entry : ℕ} → rest ≡ entry ∷ behind → entry ≡ step
        → Checking rows list behind (here rows step) (step + 1)
    checking_more {behind} {entry} split is =
        record {
          at = at_next k.at h;
          entries =
              k.entries
              ∙ ap (λ (l : List ℕ). first_changes (sent_of rows) step ++ l) (split ∙ ap (λ (m : ℕ). m ∷ behind) is)
              ∙ sym (append_assoc (first_changes (sent_of rows) step) (step ∷ []) behind)
              ∙ ap (λ (l : List ℕ). l ++ behind) (sym more);
        }

    -- the changes have the step as the next entry
    next_is : list ≡ changes (sent_of rows) → (behind : List ℕ) × (rest ≡ step ∷ behind)
    next_is theirs =
        let all = sent_many rows in
        let b = below_behind (changed (sent_of rows)) (step + 1) (length (sent_of rows)) (omega arith) in (
          b.rest,
          append_cancel_left (first_changes (sent_of rows) step) rest (step ∷ b.rest)
              (sym k.entries
              ∙ theirs
              ∙ b.joined
              ∙ ap (λ (l : List ℕ). l ++ b.rest) more
              ∙ append_assoc (first_changes (sent_of rows) step) (step ∷ []) b.rest),
        )

    pub checking_short : length rest ≡ 0 → false ≡ alike list (changes (sent_of rows))
    checking_short none =
        not_alike list (changes (sent_of rows)) (λ theirs. let long = ap length (next_is theirs).1 in absurd (omega arith))

    pub checking_fails : {behind : List ℕ} {entry : ℕ} → rest ≡ entry ∷ behind → (entry ≡ step → ⊥)
        → false ≡ alike list (changes (sent_of rows))
    checking_fails split differs =
        not_alike list (changes (sent_of rows))
        (λ theirs. differs (ap (λ (l : List ℕ). get_or l 0 0) (sym split ∙ (next_is theirs).1)))

  module _ (h : length rows ≤ step) where
    all_entries : list ≡ changes (sent_of rows) ++ rest
    all_entries =
        let within = k.at.within in
        let all = sent_many rows in
        let e : step ≡ length (sent_of rows) = omega arith in
        k.entries ∙ ap (λ (m : ℕ). first_changes (sent_of rows) m ++ rest) e

    pub checking_done : eqb (length rest) 0 ≡ alike list (changes (sent_of rows))
    checking_done = go (eqb (length rest) 0) refl
      where
        go : (t : Bool) → eqb (length rest) 0 ≡ t → t ≡ alike list (changes (sent_of rows))
        go true e =
            let none = eqb-true (length rest) 0 e in
            let is : list ≡ changes (sent_of rows) =
            all_entries ∙ ap (λ (l : List ℕ). changes (sent_of rows) ++ l) (nil_from_length rest none) ∙ append-nil (changes (sent_of rows)) in
            rw is (sym (alike_self (changes (sent_of rows))))
        go false e =
            let some = eqb-false (length rest) 0 e in
            not_alike list (changes (sent_of rows))
            (λ theirs.
            let long = length-append (changes (sent_of rows)) rest in
            some (omega (arith, ap length all_entries, ap length theirs)))
