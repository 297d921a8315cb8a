-- What the verdict of the scan says for the tables: all steps of an explained capture are filled, and of another none.
use mathlib.Core.Path.{◌≡◌, refl, ap, ◌∙◌}
use mathlib.Core.Bool.{Bool, true, false, not}
use mathlib.Core.List.{List, [], ◌∷◌, ◌++◌}
use Prim.Native.Nat.{ℕ, suc, ◌+◌, ◌/◌, ◌≤◌, zero-le}
use native.Mathlib.Omega.{arith}
use lib.Dec.{eqb}
use lib.ListN.{length, take, drop}
use lib.Seq.{length-take-le, take_all, take_at, drop_at}
use Rattle.basics.specs.Capture.{Row, rows_of}
use Rattle.controller.specs.declared.Controller.{Controller}
use Rattle.explain.specs.Filling.{along, conditions_along, commands_along, ended, settled, Stored, Keeps, filled_steps, Fills}
use Rattle.explain.specs.Scan.{Scanned, all, first, scan_from}
use Rattle.explain.specs.Trace.{start, live, next, Fit, verdict_of, scanned}
use Rattle.explain.specs.Verdict.{Judging}
use Rattle.explain.specs.declared.Records.{Records}
use Rattle.basics.proofs.Rows.{rows_long}
use Rattle.explain.proofs.Keeping.{first_open}

-- a scan that takes in all rows counts them
scan_count : (rows : List Row) (i : ℕ) (d : Records) (k : ℕ) → scan_from next live i d rows ≡ all k → k ≡ i + length rows
scan_count [] i d k e = let same : i ≡ k = cc in omega arith
scan_count (r ∷ rows) i d k e =
    let counted = scan_count rows (suc i) (next d r) k (first_open i k d r rows e).1 in omega arith

module _ (s : Controller) (bytes : List ℕ) (fit : Fit (start s)) where
  pub keeps : {j : Judging} → j ≡ scanned s bytes → {steps : ℕ} → steps ≡ filled_steps j (length bytes / 4)
      → Keeps (start s) bytes steps steps
  keeps {j} e are = rw are (go (scan_from next live 0 (start s) (rows_of bytes)) refl)
    where
      go : (found : Scanned) → scan_from next live 0 (start s) (rows_of bytes) ≡ found →
          let steps = filled_steps j (length bytes / 4) in
          Keeps (start s) bytes steps steps
      go (all k) is =
          let verdict : j.verdict ≡ 1 = ap (λ (v : Judging). v.verdict) (e ∙ ap verdict_of is) in
          let count = scan_count (rows_of bytes) 0 (start s) k is in
          let whole : take (length bytes / 4) (rows_of bytes) ≡ rows_of bytes =
          take_all (length bytes / 4) (rows_of bytes) (omega (arith, rows_long bytes)) in
          let steps : k ≡ length bytes / 4 = omega (arith, rows_long bytes) in
          rw verdict
          record { inside = omega arith; fit = fit; alive = rw whole (is ∙ ap all steps); commands_room = refl }
      go (first i) is =
          let verdict : j.verdict ≡ 2 = ap (λ (v : Judging). v.verdict) (e ∙ ap verdict_of is) in
          rw verdict record { inside = zero-le; fit = fit; alive = refl; commands_room = refl }

filled_most : (j : Judging) (steps : ℕ) → filled_steps j steps ≤ steps
filled_most j steps = go (eqb j.verdict 1) refl
  where
    go : (t : Bool) → eqb j.verdict 1 ≡ t → filled_steps j steps ≤ steps
    go true e = rw e (omega arith)
    go false e = rw e zero-le

-- so many words each table has
pub shown_long : (j : Judging) (steps : ℕ) {shown : ℕ} → shown ≡ filled_steps j steps → (table : List ℕ) → steps ≤ length table
    → length (take shown table) ≡ shown
shown_long j steps {shown} are table room =
    length-take-le shown table (omega (arith, are, filled_most j steps))

-- a word a step
length_along : (f : Records → Row → ℕ) (d : Records) (rows : List Row) → length (along f d rows) ≡ length rows
length_along f d [] = refl
length_along f d (r ∷ rows) = ap suc (length_along f (next d r) rows)

length_settled : (idle : Bool) (words : List ℕ) → length (settled idle words) ≡ length words
length_settled idle [] = refl
length_settled idle (word ∷ words) = ap suc (length_settled idle words)

-- a table whose first entries are these
stored : (steps : ℕ) (words old : List ℕ) → length words ≡ steps → Stored steps words old (words ++ drop steps old)
stored steps words old long =
    record { written = take_at words (drop steps old) steps long; behind = drop_at words (drop steps old) steps long }

-- both ways together
pub fills : {hold : Bool} {d : Records} {rows : List Row} {steps : ℕ} {old old2 words back words2 : List ℕ} {idle : Bool}
    → length rows ≡ steps → idle ≡ not (ended d rows).heard → words ≡ conditions_along d rows → back ≡ settled idle words
    → words2 ≡ commands_along hold d rows → Fills hold d rows old old2 (back ++ drop steps old) (words2 ++ drop steps old2)
fills {hold} {d} {rows} {steps} {old} {old2} {words} {back} {words2} {idle} long e forward backward commands =
    let is : back ≡ settled (not (ended d rows).heard) (conditions_along d rows) =
    backward ∙ (λ i. settled (e i) (forward i)) in
    rw (is, commands, ← long)
    record {
      conditions =
          stored (length rows) (settled (not (ended d rows).heard) (conditions_along d rows)) old
          (length_settled (not (ended d rows).heard) (conditions_along d rows) ∙ length_along _ d rows);
      commands = stored (length rows) (commands_along hold d rows) old2 (length_along _ d rows);
    }
