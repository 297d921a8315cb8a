-- How long a table is. A line's verdict and steps cost digits, and digits cost steps, of which a book has only so many.
use mathlib.Core.Path.{◌≡◌, refl}
use mathlib.Core.Bool.{Bool, true, false}
use mathlib.Core.List.{List, [], ◌∷◌, ◌++◌}
use Prim.Native.Nat.{ℕ, ◌+◌, ◌*◌, ◌-◌, ◌/◌, ◌≤◌, ◌<◌}
use native.Mathlib.Omega.{arith}
use lib.Dec.{ltb}
use lib.ListN.{length, length-append}
use borrow.Author.Tests.{ltb-true, ltb-false}
use Rattle.book.specs.Writer.{steps_of}
use Rattle.book.specs.declared.Entry.{Entry}
use Rattle.explain.specs.declared.Verdict.TheVariants as verdict
use Rattle.page.specs.Digits.{decimal}
use Rattle.page.proofs.Numbers.{decimal_below, decimal_most}
use Rattle.std.proofs.Common.{Ok, Err}
use Rattle.report.specs.Table.{Answered, chars, header, ending, verdict_text, line_text, lines_text}
use Rattle.report.proofs.Captures.{Within}

-- two digits are free; the third comes with 100, and each further one with at least 900 more
digits_paid : (v : ℕ) → v < 100000 → length (decimal v) ≤ 2 + (v + 800) / 900
digits_paid v h = go (ltb v 100) (ltb v 1000) (ltb v 10000) refl refl refl
  where
    go : (a b c : Bool) → ltb v 100 ≡ a → ltb v 1000 ≡ b → ltb v 10000 ≡ c → length (decimal v) ≤ 2 + (v + 800) / 900
    go true b c e f g = omega (arith, decimal_below 1 v (ltb-true v 100 e))
    go false true c e f g = omega (arith, ltb-false v 100 e, decimal_below 2 v (ltb-true v 1000 f))
    go false false true e f g = omega (arith, ltb-false v 1000 f, decimal_below 3 v (ltb-true v 10000 g))
    go false false false e f g = omega (arith, ltb-false v 10000 g, decimal_below 4 v h)

-- what is asked of a capture
abbrev Fits : Entry → Answered → Type 0
Fits e v = (e.n ≤ 14) × (e.steps < 100000) × Within e.steps v

abbrev pub AllFit : List Entry → List Answered → Type 0
AllFit [] [] = Unit {0}
AllFit (e ∷ entries) (v ∷ verdicts) = Fits e v × AllFit entries verdicts
AllFit [] (v ∷ verdicts) = ⊥
AllFit (e ∷ entries) [] = ⊥

verdict_short : (steps : ℕ) (v : Answered) → steps < 100000 → Within steps v
    → length (decimal steps) + length (verdict_text v) ≤ 17 + (steps + 800) / 900 + (steps + 799) / 900
verdict_short steps (Ok (verdict.Explained k)) small same =
    let own = digits_paid steps small in
    let shown = digits_paid k (omega arith) in
    simp length-append (omega arith)
verdict_short steps (Ok (verdict.Unexplained i)) small below =
    let own = digits_paid steps small in
    let shown = digits_paid i (omega arith) in
    simp length-append (omega arith)
verdict_short steps (Err k) small none = absurd none

line_short : (number : ℕ) (e : Entry) (v : Answered) → Fits e v
    → length (line_text number e v)
    ≤ length (decimal number) + 22 + (e.steps + 800) / 900 + (e.steps + 799) / 900
unfolding line_text
line_short number e v fits =
    let sections = decimal_below 1 e.n (omega (arith, fits.0)) in
    let rest = verdict_short e.steps v fits.1 fits.2 in
    simp length-append (omega arith)

-- the numbers below 10 have one digit, those below 64 no more than two
number_short : (number : ℕ) → number < 64 → length (decimal number) + (10 - number) ≤ 2 + (10 - (number + 1))
number_short number few = go (ltb number 10) refl
  where
    go : (t : Bool) → ltb number 10 ≡ t → length (decimal number) + (10 - number) ≤ 2 + (10 - (number + 1))
    go true e = omega (arith, ltb-true number 10 e, decimal_below 0 number (ltb-true number 10 e))
    go false e = omega (arith, ltb-false number 10 e, decimal_below 1 number (omega arith))

lines_short : (number : ℕ) (entries : List Entry) (verdicts : List Answered) → AllFit entries verdicts
    → number + length entries ≤ 64 →
    let k = length entries in
    let all = steps_of entries in
    length (lines_text number entries verdicts) + (10 - number)
    ≤ 24 * k + (10 - (number + k)) + (all + 800 * k) / 900 + (all + 799 * k) / 900
unfolding steps_of
lines_short number [] [] fit few = omega arith
lines_short number (e ∷ entries) (v ∷ verdicts) fit few =
    let first = number_short number (omega arith) in
    let line = line_short number e v fit.0 in
    let rest = lines_short (number + 1) entries verdicts fit.1 (omega arith) in
    let both = length-append (line_text number e v) (lines_text (number + 1) entries verdicts) in
    omega arith
lines_short number [] (v ∷ verdicts) fit few = absurd fit
lines_short number (e ∷ entries) [] fit few = absurd fit

-- with 64 captures there are at most 16,191 steps
pub captures_short : (entries : List Entry) (verdicts : List Answered) → AllFit entries verdicts → length entries ≤ 64
    → 2 + 12 * length entries + 4 * steps_of entries ≤ 65536 → length (header ++ lines_text 0 entries verdicts) ≤ 1708
captures_short entries verdicts fit few room =
    let lines = lines_short 0 entries verdicts fit (omega arith) in
    let both = length-append header (lines_text 0 entries verdicts) in
    let first : (steps_of entries + 800 * length entries) / 900 ≤ 74 = omega arith in
    let second : (steps_of entries + 799 * length entries) / 900 ≤ 74 = omega arith in
    omega arith

pub refused_short : (number : ℕ) → length (ending (chars "refused ") number) ≤ 1708
refused_short number = let digits = decimal_most number in simp length-append (omega arith)
