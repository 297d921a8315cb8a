-- Extending a list of changes: refusals 8, 9, 13, 16, 12, in this order, the number of changes, and the table afterwards
-- (02, e).
use Rattle.std.specs.Prelude.{if◌then◌else◌, Bool, true, false, not, ◌&&◌, Result, Ok, Err, List, [], ◌∷◌, ◌++◌, ℕ, ltb, leb, eqb, length, take, drop}
use Rattle.std.proofs.lemmas.List.Edits.{sets}
use Rattle.basics.specs.Capture.{size_faults}
use Rattle.basics.specs.First.{Check, ◌when◌, first_of}
use Rattle.basics.specs.Refusal.{refusal_number, refused_or}
use Rattle.basics.specs.declared.refusal.Refusal.{Refusal}
use Rattle.switches.specs.Changes.{sent_in, changes}

-- refusals 8, 9, and 13 for a capture with fewer steps than these
abbrev pub steps_faults : List ℕ → ℕ → List Check
steps_faults bytes steps = size_faults (length bytes) ++ (13 when ltb (length (sent_in bytes)) steps) ∷ []

-- the same numbers, as many and in the same order
abbrev pub alike : List ℕ → List ℕ → Bool
alike [] [] = true
alike (x ∷ xs) (y ∷ ys) = eqb x y && alike xs ys
alike [] (y ∷ ys) = false
alike (x ∷ xs) [] = false

-- the table has `count` entries or more, and the first `count` are exactly the changes of these sent K1
abbrev pub lists : List ℕ → ℕ → List ℕ → Bool
lists table count sent = leb count (length table) && alike (take count table) (changes sent)

abbrev pub extend_faults : List ℕ → ℕ → ℕ → List ℕ → List Check
extend_faults bytes listed count table =
    steps_faults bytes listed
    ++ (16 when not (lists table count (take listed (sent_in bytes))))
    ∷ (12 when ltb (length table) (length (changes (sent_in bytes))))
    ∷ []

unfoldable pub extend_refusal : List ℕ → ℕ → ℕ → List ℕ → ℕ
extend_refusal bytes listed count table = first_of (extend_faults bytes listed count table)

-- what extending answers: a refusal with 0, or the number of changes
pub record Grown : Type 0 where
  pub refusal : ℕ
  pub number : ℕ

abbrev pub extending_told : Result ℕ Refusal → Grown
extending_told (Ok number) = record { refusal = 0; number = number }
extending_told (Err e) = record { refusal = refusal_number e; number = 0 }

abbrev pub extending_case : Grown → Result ℕ Refusal
extending_case a = refused_or a.refusal a.number

unfoldable pub extending : List ℕ → ℕ → ℕ → List ℕ → Grown
extending bytes listed count table =
    if eqb (extend_refusal bytes listed count table) 0
    then record { refusal = 0; number = length (changes (sent_in bytes)) }
    else record { refusal = extend_refusal bytes listed count table; number = 0 }

-- what the table holds then: the changes from entry `count` on, and elsewhere what it held; or, refused, what it held
unfoldable pub extended : List ℕ → ℕ → ℕ → List ℕ → List ℕ
extended bytes listed count table =
    if eqb (extend_refusal bytes listed count table) 0
    then sets table count (drop count (changes (sent_in bytes)))
    else table
