-- What the judge answers (01, 'The judge' and 'Numbered refusals'; 02, g).
use Rattle.std.specs.Prelude.{cond, ◌≡◌, Bool, Result, Ok, Err, List, ◌++◌, ◌⊎◌, ℕ, ◌+◌, eqb, length, take}
use Rattle.basics.specs.First.{Check, first_of}
use Rattle.basics.specs.Refusal.{refusal_number}
use Rattle.basics.specs.declared.refusal.Refusal.{Refusal}
use Rattle.controller.specs.Settings.{settings_faults}
use Rattle.basics.specs.Capture.{Row, rows_of, size_faults}
use Rattle.explain.specs.Explained.{Explained}
use Rattle.explain.specs.declared.Verdict.{Verdict}
use Rattle.explain.specs.declared.Verdict.TheVariants as verdict

-- the refusal; the verdict, 1 for explained and 2 for unexplained; the number of steps, or of the first step without
-- explanation
pub record Judging : Type 0 where
  pub refusal : ℕ
  pub verdict : ℕ
  pub at : ℕ

abbrev pub explained_at : ℕ → Judging
explained_at k = record { refusal = 0; verdict = 1; at = k }

abbrev pub unexplained_at : ℕ → Judging
unexplained_at i = record { refusal = 0; verdict = 2; at = i }

abbrev pub refused_by : ℕ → Judging
refused_by k = record { refusal = k; verdict = 0; at = 0 }

-- the numbers that each answer stands for
abbrev pub told : Result Verdict Refusal → Judging
told (Ok (verdict.Explained k)) = explained_at k
told (Ok (verdict.Unexplained i)) = unexplained_at i
told (Err e) = refused_by (refusal_number e)

-- refusals 1, 2, 8, 9, in this order
abbrev pub judge_faults : ℕ → ℕ → ℕ → List Check
judge_faults n mask size = settings_faults n mask ++ size_faults size

-- explained with the number of steps; or unexplained with the number, from 0, of the first step such that the steps up to
-- and with it have no explanation
abbrev pub Found : ℕ → Bool → ℕ → ℕ → List Row → Judging → Type 0
Found n hold mask w rows j =
    ((j ≡ explained_at (length rows)) × Explained n hold mask w rows)
    ⊎ ((i : ℕ)
    × (j ≡ unexplained_at i)
    × Explained n hold mask w (take i rows)
    × (Explained n hold mask w (take (i + 1) rows) → ⊥))

-- the right answer for a capture, where these are the refusals: the first that applies, or what is found
unfoldable pub RightBehind : List Check → ℕ → Bool → ℕ → ℕ → List ℕ → Judging → Type 0
RightBehind faults n hold mask w bytes j =
    cond (eqb (first_of faults) 0) (Found n hold mask w (rows_of bytes) j) (j ≡ refused_by (first_of faults))

-- that of the judge
abbrev pub Right : ℕ → Bool → ℕ → ℕ → List ℕ → Judging → Type 0
Right n hold mask w bytes j = RightBehind (judge_faults n mask (length bytes)) n hold mask w bytes j
