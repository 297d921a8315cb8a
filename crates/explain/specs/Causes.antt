-- The causes that the judge shows of an explained capture (02, a).
use Rattle.std.specs.Prelude.{cond, if◌then◌else◌, ◌≡◌, Bool, true, ◌||◌, List, [], ◌∷◌, ◌++◌, ℕ, zero, suc, ◌+◌, ◌/◌, ◌%◌, ◌^◌, ltb, eqb, length, take, drop}
use Rattle.basics.specs.Capture.{Row, rows_of}
use Rattle.basics.specs.First.{Check, ◌when◌}
use Rattle.basics.specs.Table.{every}
use Rattle.controller.specs.Settings.{fresh}
use Rattle.explain.specs.Explained.{Cause, Explains}
use Rattle.explain.specs.Verdict.{Judging, judge_faults, RightBehind}

-- the conditions in a word, of as many sections: two bits per section, section 0 lowest
abbrev pub conditions_in : ℕ → ℕ → List ℕ
conditions_in zero word = []
conditions_in (suc k) word = word % 4 ∷ conditions_in k (word / 4)

-- other bits 0
abbrev pub no_other_bit : ℕ → ℕ → Bool
no_other_bit n word = ltb word (4 ^ (n + 1))

-- the cause in the two words of a step: sections 0 to n; command in the upper byte, channel in the lower
abbrev pub cause_in : ℕ → ℕ → ℕ → Cause
cause_in n conditions command =
    record { conditions = conditions_in (n + 1) conditions; command = command / 256; channel = command % 256 }

-- and the causes in two tables, one a step
abbrev pub causes_in : ℕ → List ℕ → List ℕ → List Cause
causes_in n [] commands = []
causes_in n (x ∷ conditions) [] = []
causes_in n (x ∷ conditions) (y ∷ commands) = cause_in n x y ∷ causes_in n conditions commands

-- refusal 11 if either table is shorter than the steps, and the order: 1, 2, 8, 9, 11
abbrev pub room_faults : ℕ → ℕ → ℕ → List Check
room_faults steps room room2 = (11 when ltb room steps || ltb room2 steps) ∷ []

abbrev pub causes_faults : ℕ → ℕ → ℕ → ℕ → ℕ → List Check
causes_faults n mask size room room2 = judge_faults n mask size ++ room_faults (size / 4) room room2

-- explained: under the causes in the first words, one a step, the controller sends the rows; what stands behind them is as it
-- was
pub record Shown (n : ℕ) (hold : Bool) (mask w : ℕ) (rows : List Row) (old old2 new new2 : List ℕ) : Type 0 where
  pub explains : Explains (fresh n hold mask w) (causes_in n (take (length rows) new) (take (length rows) new2)) rows
  pub no_other_bit : every (no_other_bit n) (take (length rows) new) ≡ true
  pub conditions_behind : drop (length rows) new ≡ drop (length rows) old
  pub commands_behind : drop (length rows) new2 ≡ drop (length rows) old2

-- else: the tables are as they were
abbrev pub Untouched : List ℕ → List ℕ → List ℕ → List ℕ → Type 0
Untouched old old2 new new2 = (new ≡ old) × (new2 ≡ old2)

-- the tables afterwards, of conditions and of commands, by the verdict
abbrev pub Filled : ℕ → Bool → ℕ → ℕ → List ℕ → Judging → List ℕ → List ℕ → List ℕ → List ℕ → Type 0
Filled n hold mask w bytes j old old2 new new2 =
    cond (eqb j.verdict 1) (Shown n hold mask w (rows_of bytes) old old2 new new2) (Untouched old old2 new new2)

-- what is promised: the judge's right answer behind these refusals, and the tables by it
pub record Causes (n : ℕ) (hold : Bool) (mask w : ℕ) (bytes old old2 : List ℕ) (j : Judging) (new new2 : List ℕ)
    : Type 0 where
  pub verdict : RightBehind (causes_faults n mask (length bytes) (length old) (length old2)) n hold mask w bytes j
  pub tables : Filled n hold mask w bytes j old old2 new new2

-- the entries of a table that are never chosen: those from the steps on, if the capture is explained, else all
abbrev pub fixed_in : Judging → List ℕ → List ℕ
fixed_in j table = if eqb j.verdict 1 then drop j.at table else table
