-- The last change at or before a step: refusals 8, 9, 13, 16, in this order, and the change, or none (02, e).
use Rattle.std.specs.Prelude.{if◌then◌else◌, not, Option, None, Some, Result, Ok, Err, List, [], ◌∷◌, ◌++◌, ℕ, ◌+◌, eqb, length, get_or}
use Rattle.basics.specs.First.{Check, ◌when◌, first_of}
use Rattle.basics.specs.Refusal.{refusal_number, refused_or}
use Rattle.basics.specs.declared.refusal.Refusal.{Refusal}
use Rattle.switches.specs.Changes.{below◌such_that◌, sent_in, changed, changes}
use Rattle.switches.specs.Extend.{steps_faults, alike}

-- a step is in the capture if there are more steps than its number; the list is that of the whole capture
abbrev pub look_faults : List ℕ → List ℕ → ℕ → List Check
look_faults bytes list step =
    steps_faults bytes (step + 1) ++ (16 when not (alike list (changes (sent_in bytes)))) ∷ []

-- what looking answers: a refusal; 1 if there is such a change, else 0; and its step
pub record Looked : Type 0 where
  pub refusal : ℕ
  pub found : ℕ
  pub step : ℕ

abbrev pub looking_told : Result (Option ℕ) Refusal → Looked
looking_told (Ok (Some step)) = record { refusal = 0; found = 1; step = step }
looking_told (Ok None) = record { refusal = 0; found = 0; step = 0 }
looking_told (Err e) = record { refusal = refusal_number e; found = 0; step = 0 }

abbrev pub looking_case : Looked → Result (Option ℕ) Refusal
looking_case a = refused_or a.refusal (if eqb a.found 0 then None else Some a.step)

-- the last of some changes
abbrev pub last_of : List ℕ → Looked
last_of [] = record { refusal = 0; found = 0; step = 0 }
last_of (c ∷ more) = record { refusal = 0; found = 1; step = get_or (c ∷ more) (length more) 0 }

-- the changes at or before the step are those below the next one
unfoldable pub looking : List ℕ → List ℕ → ℕ → Looked
looking bytes list step =
    let refusal = first_of (look_faults bytes list step) in
    if eqb refusal 0 then last_of (below (step + 1) such_that (changed (sent_in bytes)))
    else record { refusal = refusal; found = 0; step = 0 }
