-- The judge's answer in bytes, with the causes of an explained capture or without.
use Rattle.std.specs.Prelude.{cond, if◌then◌else◌, ◌≡◌, List, ◌∷◌, ℕ, ◌+◌, ◌*◌, eqb, get_or, drop}
use Rattle.basics.specs.Bytes.{two_bytes}
use Rattle.basics.specs.Settings.{options_fit, hold_of}
use Rattle.explain.specs.Verdict.{Judging, refused_by, Right}
use Rattle.explain.specs.Causes.{Untouched, Causes}

-- the verdict, then the number of steps or of the first step
abbrev pub judging_bytes : Judging → List ℕ
judging_bytes j = j.verdict ∷ two_bytes j.at

-- the refusal and the bytes of an answer that is as it should be
pub record Told (Holds : Judging → Type 0) (refusal : ℕ) (out : List ℕ) : Type 0 where
  pub answer : Judging
  pub right : Holds answer
  pub number : refusal ≡ answer.refusal
  pub bytes : out ≡ judging_bytes answer

-- the right answer by the options; above 1 there are none, which is refusal 25, before every other number
unfoldable pub RightFor : ℕ → ℕ → ℕ → ℕ → List ℕ → Judging → Type 0
RightFor n options mask w capture j =
    cond (options_fit options) (Right n (hold_of options) mask w capture j) (j ≡ refused_by 25)

abbrev pub Judged : ℕ → ℕ → ℕ → ℕ → List ℕ → ℕ → List ℕ → Type 0
Judged n options mask w capture refusal out = Told (RightFor n options mask w capture) refusal out

-- and the one that comes with the tables, of conditions and of commands, as they were and as they are then
unfoldable pub CausesFor : ℕ → ℕ → ℕ → ℕ → List ℕ → List ℕ → List ℕ → List ℕ → List ℕ → Judging → Type 0
CausesFor n options mask w capture old old2 new new2 j =
    cond (options_fit options) (Causes n (hold_of options) mask w capture old old2 j new new2)
    ((j ≡ refused_by 25) × Untouched old old2 new new2)

abbrev pub CausesTold : ℕ → ℕ → ℕ → ℕ → List ℕ → List ℕ → List ℕ → ℕ → List ℕ → List ℕ → List ℕ → Type 0
CausesTold n options mask w capture old old2 refusal new new2 out =
    Told (CausesFor n options mask w capture old old2 new new2) refusal out

-- the entries of a table that are never chosen, by the bytes of the answer: those from the steps on, if the capture is
-- explained, else all
abbrev pub fixed_by : List ℕ → List ℕ → List ℕ
fixed_by out table = if eqb (get_or out 0 0) 1 then drop (256 * get_or out 1 0 + get_or out 2 0) table else table
