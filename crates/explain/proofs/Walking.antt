-- The walk over a capture's bytes: what is left to scan gives the verdict of the whole.
use mathlib.Core.Path.{◌≡◌, refl, sym, ap, subst, ◌∙◌}
use mathlib.Core.Bool.{true}
use mathlib.Core.List.{List, ◌∷◌}
use Prim.Native.Nat.{ℕ, suc, ◌+◌, ◌-◌, ◌*◌, ◌/◌, ◌%◌, ◌≤◌, ◌<◌}
use native.Mathlib.Omega.{arith}
use lib.ListN.{length, drop}
use lib.Seq.{drop-drop}
use Rattle.basics.specs.Capture.{Row, rows_of, row_at, most}
use Rattle.explain.specs.Scan.{scan_from}
use Rattle.explain.specs.Trace.{live, next, passes, passed, Fit, verdict_of}
use Rattle.explain.specs.declared.Records.{Records}
use Rattle.basics.proofs.Rows.{row_here, rows_behind}
use Rattle.repeats.specs.Repeats.{run_of, repeated}
use Rattle.repeats.proofs.Runs.{repeated_few, repeated_is}
use Rattle.explain.proofs.Looks.{next_fit}
use Rattle.explain.proofs.Passing.{Behind, Lasts, scan_past, passes_most, passes_last}

-- behind the bytes of the steps so far
pub record Walk (bytes : List ℕ) (begin possible : Records) (at : ℕ) : Type 0 where
  pub place : at % 4 ≡ 0
  pub within : at ≤ length bytes
  pub whole : length bytes % 4 ≡ 0
  pub small : length bytes ≤ most
  pub fit : Fit possible
  pub remains :
      verdict_of (scan_from next live (at / 4) possible (rows_of (drop at bytes)))
      ≡ verdict_of (scan_from next live 0 begin (rows_of bytes))

module _ {bytes : List ℕ} {begin possible : Records} {at : ℕ} (w : Walk bytes begin possible at) where
  abbrev here : Row
  here = row_at bytes at

  -- a step begun is there whole
  pub whole_step : at < length bytes → at + 4 ≤ length bytes
  whole_step h =
      let p = w.place in
      let q = w.whole in
      omega arith

  pub few_steps : at / 4 < 65536
  few_steps =
      let p = w.within in
      let q = w.small in
      omega arith

  pub few_rows : {run : ℕ} → run ≡ repeated bytes (at + 4) → run < 65536
  few_rows repeats =
      let small = w.small in
      let there = repeated_few bytes (at + 4) in
      omega arith

  abbrev rest : List Row
  rest = rows_of (drop (at + 4) bytes)

  step_here : at < length bytes
      → verdict_of (scan_from next live (at / 4) possible (here ∷ rest)) ≡ verdict_of (scan_from next live 0 begin (rows_of bytes))
  step_here h =
      let first = row_here bytes at (whole_step h) in
      ap (λ (l : List Row). verdict_of (scan_from next live (at / 4) possible l)) (sym first) ∙ w.remains

  pub walk_next : at < length bytes → {new : Records} → new ≡ next possible here → live new ≡ true
      → Walk bytes begin new (at + 4)
  walk_next h {new} is e =
      let p = w.place in
      let goes : live (next possible here) ≡ true = rw is at e in
      let on : (at + 4) / 4 ≡ suc (at / 4) = omega arith in
      rw is
      record {
        place = omega arith;
        within = whole_step h;
        whole = w.whole;
        small = w.small;
        fit = next_fit possible here w.fit goes;
        remains =
            ap (λ (k : ℕ). verdict_of (scan_from next live k (next possible here) rest)) on ∙ (rw goes at (step_here h));
      }

  -- rows that repeat the one before the place are passed over
  walk_past : (before : ℕ) → at ≡ before + 4 → Behind (row_at bytes before) possible → (run few : ℕ)
      → run ≡ repeated bytes at → few ≡ passes possible run → {new : Records} → new ≡ passed possible few
      → Walk bytes begin new (at + 4 * few)
  walk_past before stood behind run few repeats passing {new} is =
      let p = w.place in
      let i = w.within in
      let rows = rows_of (drop at bytes) in
      let row : at - 4 ≡ before = omega arith in
      let runs : run ≡ run_of (row_at bytes before) rows =
      repeats ∙ repeated_is bytes at (omega arith) ∙ ap (λ (k : ℕ). run_of (row_at bytes k) rows) row in
      let most = passes_most possible run in
      let there = repeated_few bytes at in
      let on : (at + 4 * few) / 4 ≡ at / 4 + few = omega arith in
      let behind_rows : drop few rows ≡ rows_of (drop (at + 4 * few) bytes) =
      rows_behind few (drop at bytes) ∙ ap rows_of (drop-drop (4 * few) at bytes) in
      let past =
      scan_past few rows (row_at bytes before) possible (at / 4) behind (omega arith)
      (subst (λ (k : ℕ). Lasts possible k) (sym passing) (passes_last possible run)) in
      rw is
      record {
        place = omega arith;
        within = omega arith;
        whole = w.whole;
        small = w.small;
        fit = record { sections = w.fit.sections; sent = w.fit.sent; accepted = w.fit.accepted };
        remains =
            (λ j. verdict_of (scan_from next live (on j) (passed possible few) (sym behind_rows j)))
            ∙ ap verdict_of (sym past)
            ∙ w.remains;
      }

-- a step, and the rows behind it that repeat it
module _ {bytes : List ℕ} {begin possible : Records} {at : ℕ} (w : Walk bytes begin possible at) (more : at < length bytes)
    {new : Records} (is : new ≡ next possible (row_at bytes at)) (goes : live new ≡ true) {run : ℕ}
    (repeats : run ≡ repeated bytes (at + 4)) where
  pub walk_run : {few : ℕ} → few ≡ passes new run → {past : Records} → past ≡ passed new few
      → Walk bytes begin past (at + 4 + 4 * few)
  walk_run {few} passing over =
      walk_past (walk_next w more is goes) at refl (record { before = possible; by = is; alive = goes }) run few repeats passing over
