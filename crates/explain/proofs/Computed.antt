-- The judge lines of document 01, computed.
use mathlib.Core.Path.{◌≡◌, refl, subst}
use mathlib.Core.Bool.{Bool, true, false, ◌&&◌, and-eq-true_iff}
use mathlib.Core.List.{List, [], ◌∷◌}
use lib.Dec.{eqb}
use lib.ListN.{length}
use borrow.Author.Tests.{eqb-true}
use Rattle.basics.specs.Capture.{size_faults}
use Rattle.basics.specs.First.{first_of}
use Rattle.basics.specs.Table.{every}
use Rattle.pair.specs.Request.{listed, carries, rank_in, rank_of}
use Rattle.pair.specs.Marks.{finding, usable}
use Rattle.controller.specs.Settings.{fresh}
use Rattle.explain.specs.Verdict.{Judging, Right}
use Rattle.explain.specs.Lines.{Line, ◌is◌, lines, AllRight}
use Rattle.explain.specs.Cause.{arises, unseen, answers}
use Rattle.explain.specs.Trace.{next, scanned}
use Rattle.explain.proofs.Judged.{scanned_right}

alike : Judging → Judging → Bool
alike j k = eqb j.refusal k.refusal && eqb j.verdict k.verdict && eqb j.at k.at

alike_eq : (j k : Judging) → alike j k ≡ true → j ≡ k
unfolding alike
alike_eq j k h =
    let last = (and-eq-true_iff (eqb j.refusal k.refusal && eqb j.verdict k.verdict) (eqb j.at k.at)).0 h in
    let two = (and-eq-true_iff (eqb j.refusal k.refusal) (eqb j.verdict k.verdict)).0 last.0 in
    let refusal = eqb-true j.refusal k.refusal two.0 in
    let verdict = eqb-true j.verdict k.verdict two.1 in
    let at = eqb-true j.at k.at last.1 in
    λ i. record { refusal = refusal i; verdict = verdict i; at = at i }

-- the scan gives the line's answer
abbrev gives : Line → Bool
gives (bytes is j) = eqb (first_of (size_faults (length bytes))) 0 && alike (scanned (fresh 2 false 0 3) bytes) j

table : every gives lines ≡ true
unfolding alike next arises unseen answers finding usable carries listed rank_of rank_in
table = refl

all_right : (hold : Bool) (some : List Line) → every gives some ≡ true → AllRight hold some
all_right hold [] h = tt
all_right hold ((bytes is j) ∷ rest) h =
    let both = (and-eq-true_iff (gives (bytes is j)) (every gives rest)).0 h in
    let parts =
    (and-eq-true_iff (eqb (first_of (size_faults (length bytes))) 0) (alike (scanned (fresh 2 false 0 3) bytes) j)).0 both.0 in
    let none = eqb-true (first_of (size_faults (length bytes))) 0 parts.0 in (
      subst (Right 2 hold 0 3 bytes) (alike_eq (scanned (fresh 2 false 0 3) bytes) j parts.1)
          (scanned_right 2 hold 0 3 bytes (size_faults (length bytes)) refl refl none),
      all_right hold rest both.1,
    )

pub lines_all_right : (hold : Bool) → AllRight hold lines
lines_all_right hold = all_right hold lines table
