-- The tables of causes, by the verdict: filled where the capture is explained, and else as they were.
use mathlib.Core.Path.{◌≡◌, refl, sym, ap, subst, ◌∙◌}
use mathlib.Core.Bool.{Bool, true, false, cond}
use mathlib.Core.Logic.{⊎_elim}
use mathlib.Core.List.{List, ◌++◌}
use Prim.Native.Nat.{ℕ, ◌/◌, ◌≤◌}
use native.Mathlib.Omega.{arith}
use lib.Dec.{ltb, eqb}
use lib.ListN.{length, take}
use lib.Seq.{take-length}
use borrow.Author.Tests.{ltb-false, le-ltb, eqb-true, eqb-false}
use Rattle.basics.specs.Capture.{Row, rows_of, size_faults}
use Rattle.basics.specs.First.{Check, first_of}
use Rattle.basics.proofs.First.{none_exact, first_behind, first_before}
use Rattle.basics.specs.Settings.{sections_fit, mask_fits}
use Rattle.basics.specs.Table.{every}
use Rattle.controller.specs.Settings.{fresh, settings_faults}
use Rattle.explain.specs.Causes.{no_other_bit, causes_in, room_faults, causes_faults, Shown, Untouched, Filled, Causes, fixed_in}
use Rattle.explain.specs.Explained.{Explains}
use Rattle.explain.specs.Filling.{filled_steps, Fills}
use Rattle.explain.specs.Scan.{Scanned, all, first, scan_from}
use Rattle.explain.specs.Trace.{start, live, next, verdict_of, scanned}
use Rattle.explain.specs.Verdict.{Judging, refused_by, judge_faults, RightBehind, Right}
use Rattle.explain.specs.declared.Records.{Records}
use Rattle.std.proofs.lemmas.Bool.{or_parts}
use Rattle.basics.proofs.Rows.{rows_long}
use Rattle.explain.proofs.Exact.{answer_one}
use Rattle.explain.proofs.Judged.{scanned_right}
use Rattle.explain.proofs.Explaining.{filled_shown}

-- what refusal 11 leaves
pub room_fits : (steps room room2 : ℕ) → first_of (room_faults steps room room2) ≡ 0 → (steps ≤ room) × (steps ≤ room2)
room_fits steps room room2 none =
    let both = or_parts (ltb room steps) (ltb room2 steps) ((none_exact (room_faults steps room room2) refl).0 none 0) in
    (ltb-false room steps both.0, ltb-false room2 steps both.1)

module _ (n : ℕ) (hold : Bool) (mask w : ℕ) (bytes old old2 : List ℕ) where
  -- what is asked behind the settings
  abbrev pub rest : List Check
  rest = size_faults (length bytes) ++ room_faults (length bytes / 4) (length old) (length old2)

  pub refused_causes : (k : ℕ) → RightBehind (settings_faults n mask ++ rest) n hold mask w bytes (refused_by k)
      → Causes n hold mask w bytes old old2 (refused_by k) old old2
  refused_causes k right = record { verdict = right; tables = (refl, refl) }

  module _ (fits : sections_fit n ≡ true) (mask_Fits : mask_fits n mask ≡ true) (new new2 : List ℕ) where
    abbrev begin : Records
    begin = start (fresh n false mask w)

    abbrev Written : Judging → Type 0
    Written j = Fills hold begin (take (filled_steps j (length bytes / 4)) (rows_of bytes)) old old2 new new2

    by_verdict : (f : Scanned) → scan_from next live 0 begin (rows_of bytes) ≡ f → Written (verdict_of f)
        → Filled n hold mask w bytes (verdict_of f) old old2 new new2
    by_verdict (all k) e fills =
        let whole : take (length bytes / 4) (rows_of bytes) ≡ rows_of bytes =
        ap (λ (m : ℕ). take m (rows_of bytes)) (sym (rows_long bytes)) ∙ take-length (rows_of bytes) in
        filled_shown n hold mask w fits mask_Fits (rows_of bytes) k e old old2 new new2
        (subst (λ (l : List Row). Fills hold begin l old old2 new new2) whole fills)
    by_verdict (first i) e fills = (fills.conditions.behind, fills.commands.behind)

    pub scanned_causes : first_of rest ≡ 0 → (j : Judging) → j ≡ scanned (fresh n false mask w) bytes → Written j
        → Causes n hold mask w bytes old old2 j new new2
    scanned_causes none j is fills =
        subst (λ (k : Judging). Written k → Causes n hold mask w bytes old old2 k new new2) (sym is)
        (λ (written : Written (scanned (fresh n false mask w) bytes)).
        record {
          verdict = scanned_right n hold mask w bytes rest fits mask_Fits none;
          tables = by_verdict (scan_from next live 0 begin (rows_of bytes)) refl written;
        })
        fills

-- what is promised, for any verdict and tables that are allowed
module _ {n : ℕ} {hold : Bool} {mask w : ℕ} {bytes old old2 : List ℕ} {j : Judging} {new new2 : List ℕ}
    (causes : Causes n hold mask w bytes old old2 j new new2) where
  abbrev steps : ℕ
  steps = length (rows_of bytes)

  -- an explained capture has all its steps
  explained_all : eqb j.verdict 1 ≡ true → j.at ≡ steps
  unfolding RightBehind
  explained_all is = go (eqb (first_of faults) 0) refl
    where
      faults : List Check
      faults = causes_faults n mask (length bytes) (length old) (length old2)

      one : j.verdict ≡ 1
      one = eqb-true j.verdict 1 is

      go : (t : Bool) → eqb (first_of faults) 0 ≡ t → j.at ≡ steps
      go true e =
          ⊎_elim (λ found. ap (λ (k : Judging). k.at) found.0)
          (λ found.
          let two : j.verdict ≡ 2 = ap (λ (k : Judging). k.verdict) found.1 in
          absurd (omega (arith, one))) (rw e at causes.verdict)
      go false e =
          let zero : j.verdict ≡ 0 = ap (λ (k : Judging). k.verdict) (rw e at causes.verdict) in
          absurd (omega (arith, one))

  -- the entries that no filling may choose are as they were
  pub fixed : (fixed_in j new ≡ fixed_in j old) × (fixed_in j new2 ≡ fixed_in j old2)
  fixed = go (eqb j.verdict 1) refl causes.tables
    where
      go : (t : Bool) → eqb j.verdict 1 ≡ t
          → cond t (Shown n hold mask w (rows_of bytes) old old2 new new2) (Untouched old old2 new new2)
          → (fixed_in j new ≡ fixed_in j old) × (fixed_in j new2 ≡ fixed_in j old2)
      go true e shown = rw (e, explained_all e) (shown.conditions_behind, shown.commands_behind)
      go false e same = rw e same

  -- and those that it may are causes that explain the rows
  pub shown_causes : j.verdict ≡ 1
      → Explains (fresh n hold mask w) (causes_in n (take steps new) (take steps new2)) (rows_of bytes)
      × (every (no_other_bit n) (take steps new) ≡ true)
  shown_causes one =
      let shown : Shown n hold mask w (rows_of bytes) old old2 new new2 = rw one at causes.tables in
      (shown.explains, shown.no_other_bit)

  -- where neither table is short the verdict is the judge's
  pub judged : steps ≤ length old → steps ≤ length old2 → Right n hold mask w bytes j
  unfolding RightBehind
  judged room room2 = go (eqb before 0) refl
    where
      before : ℕ
      before = first_of (judge_faults n mask (length bytes))

      enough : first_of (room_faults (length bytes / 4) (length old) (length old2)) ≡ 0
      enough =
          let e = rows_long bytes in
          rw (le-ltb (length old) (length bytes / 4) (omega arith), le-ltb (length old2) (length bytes / 4) (omega arith))

      go : (t : Bool) → eqb before 0 ≡ t → Right n hold mask w bytes j
      go true e =
          let none = eqb-true before 0 e in
          let whole = first_behind (judge_faults n mask (length bytes)) (room_faults (length bytes / 4) (length old) (length old2)) refl none in
          rw none (rw (whole ∙ enough) at causes.verdict)
      go false e =
          let some = eqb-false before 0 e in
          let whole = first_before (judge_faults n mask (length bytes)) (room_faults (length bytes / 4) (length old) (length old2)) some in
          rw whole at causes.verdict

-- two verdicts with their tables that the promise allows
module _ {n : ℕ} {hold : Bool} {mask w : ℕ} {bytes old old2 : List ℕ} {j k : Judging} {new new2 after after2 : List ℕ}
    (p : Causes n hold mask w bytes old old2 j new new2) (q : Causes n hold mask w bytes old old2 k after after2) where
  pub verdict_one : j ≡ k
  verdict_one =
      answer_one n hold mask w (causes_faults n mask (length bytes) (length old) (length old2)) bytes j k p.verdict q.verdict

  pub fixed_one : (fixed_in j new ≡ fixed_in k after) × (fixed_in j new2 ≡ fixed_in k after2)
  fixed_one = (
    (fixed p).0 ∙ ap (λ (m : Judging). fixed_in m old) verdict_one ∙ sym (fixed q).0,
    (fixed p).1 ∙ ap (λ (m : Judging). fixed_in m old2) verdict_one ∙ sym (fixed q).1,
  )
