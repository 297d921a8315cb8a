-- The way forward over both tables: what is written before a step and what is left to write from it on are the whole.
use mathlib.Core.Path.{◌≡◌, refl, sym, ap, ◌∙◌}
use mathlib.Core.Bool.{Bool, true, false}
use mathlib.Core.List.{List, ◌∷◌, ◌++◌}
use Prim.Native.Nat.{ℕ, suc, ◌+◌, ◌*◌, ◌≤◌, ◌<◌, zero-le}
use native.Mathlib.Numerals.{add-one}
use native.Mathlib.Omega.{arith}
use lib.ListN.{length, take, drop, set, length-set}
use lib.Seq.{length-take-le, drop-cons, append_snoc, get_or-take, take-suc-set}
use Rattle.basics.specs.Capture.{Row, rows_of, row_at}
use Rattle.pair.specs.Marks.{channel_of}
use Rattle.explain.specs.Filling.{conditions_kept, command_kept, followed, along, ended, Keeps}
use Rattle.explain.specs.Scan.{all, first, scan_from}
use Rattle.explain.specs.Trace.{live, next, Fit}
use Rattle.explain.specs.declared.Records.{Records}
use Rattle.explain.proofs.Followed.{followed_live}
use Rattle.explain.proofs.Looks.{next_fit}
use Rattle.basics.proofs.Rows.{rows_long, row_at_lem}

-- a scan that takes in all rows leaves something open behind the first
pub first_open : (i k : ℕ) (d : Records) (r : Row) (rows : List Row) → scan_from next live i d (r ∷ rows) ≡ all k
    → (live (next d r) ≡ true) × (scan_from next live (suc i) (next d r) rows ≡ all k)
first_open i k d r rows e = go (live (next d r)) refl
  where
    go : (t : Bool) → live (next d r) ≡ t
        → (live (next d r) ≡ true) × (scan_from next live (suc i) (next d r) rows ≡ all k)
    go true alive = (alive, rw alive at e)
    go false dead =
        let stops : first i ≡ all k = rw dead at e in
        let never : ◌≡◌ {A = ℕ} 0 1 = cc in
        absurd (omega arith)

-- one table, whatever is written of a step
pub record Kept (f : Records → Row → ℕ) (begin possible : Records) (rows : List Row) (table : List ℕ) (step : ℕ)
    : Type 0 where
  pub room : length table ≡ length rows
  pub joins : take step table ++ along f possible (drop step rows) ≡ along f begin rows

kept_start : (f : Records → Row → ℕ) (begin : Records) (rows : List Row) (table : List ℕ) → length table ≡ length rows
    → Kept f begin begin rows table 0
kept_start f begin rows table room = record { room = room; joins = refl }

module _ {f : Records → Row → ℕ} {begin possible : Records} {rows : List Row} {table : List ℕ} {step : ℕ}
    (k : Kept f begin possible rows table step) where
  kept_next : (r : Row) → drop step rows ≡ r ∷ drop (suc step) rows → step < length rows
      → {value : ℕ} → value ≡ f possible r → Kept f begin (next possible r) rows (set table step value) (suc step)
  kept_next r here h {value} e =
      let room = k.room in
      let rest = along f (next possible r) (drop (suc step) rows) in
      record {
        room = length-set table step value ∙ room;
        joins =
            ap (λ (l : List ℕ). l ++ rest) (take-suc-set table step value (omega arith))
            ∙ append_snoc (take step table) value rest
            ∙ ap (λ (v : ℕ). take step table ++ v ∷ rest) e
            ∙ ap (λ (l : List Row). take step table ++ along f possible l) (sym here)
            ∙ k.joins;
      }

-- what is written of a step, as `conditions_along` and `commands_along` have it
abbrev conditions_of : Records → Row → ℕ
conditions_of d r = conditions_kept d.controller d.heard r.sent_k1

abbrev commands_of : Bool → Records → Row → ℕ
commands_of hold d r = command_kept hold d.controller (next d r).controller.k1 r.sent_k1

-- the steps, as many as are asked for
abbrev rows_in : List ℕ → ℕ → List Row
rows_in bytes steps = take steps (rows_of bytes)

pub rows_in_long : (bytes : List ℕ) (steps : ℕ) → 4 * steps ≤ length bytes → length (rows_in bytes steps) ≡ steps
rows_in_long bytes steps inside = length-take-le steps (rows_of bytes) (omega (arith, rows_long bytes))

-- at a step: what the loop follows, and the records of the scan that it follows
pub record Keeping (hold : Bool) (bytes : List ℕ) (steps : ℕ) (begin possible : Records)
    (table table2 : List ℕ) (step : ℕ) : Type 0 where
  pub within : step ≤ steps
  pub inside : 4 * steps ≤ length bytes
  pub scan : Records
  pub same : possible.controller ≡ scan.controller
  pub heard : possible.heard ≡ scan.heard
  pub fit : Fit scan
  pub alive : scan_from next live step scan (drop step (rows_in bytes steps)) ≡ all steps
  pub ends : ended scan (drop step (rows_in bytes steps)) ≡ ended begin (rows_in bytes steps)
  pub conditions : Kept conditions_of begin scan (rows_in bytes steps) table step
  pub commands : Kept (commands_of hold) begin scan (rows_in bytes steps) table2 step

pub keeping_start : (hold : Bool) (bytes : List ℕ) (begin : Records) (table table2 : List ℕ)
    → Keeps begin bytes (length table) (length table2)
    → Keeping hold bytes (length table) begin begin table table2 0
keeping_start hold bytes begin table table2 asked =
    let rows = rows_in bytes (length table) in
    let long = rows_in_long bytes (length table) asked.inside in
    let room2 = asked.commands_room in
    record {
      within = zero-le;
      inside = asked.inside;
      scan = begin;
      same = refl;
      heard = refl;
      fit = asked.fit;
      alive = asked.alive;
      ends = refl;
      conditions = kept_start conditions_of begin rows table (sym long);
      commands = kept_start (commands_of hold) begin rows table2 (omega arith);
    }

module _ {hold : Bool} {bytes : List ℕ} {steps : ℕ} {begin possible : Records} {table table2 : List ℕ} {step : ℕ}
    (k : Keeping hold bytes steps begin possible table table2 step) where
  abbrev rows : List Row
  rows = rows_in bytes steps

  abbrev here : Row
  here = row_at bytes (4 * step)

  long : length rows ≡ steps
  long = rows_in_long bytes steps k.inside

  pub loop_fit : Fit possible
  loop_fit =
      let same = k.same in
      record { sections = rw same k.fit.sections; sent = rw same k.fit.sent; accepted = rw same k.fit.accepted }

  module _ (h : step < steps) where
    pub in_bytes : 4 * step + 4 ≤ length bytes
    in_bytes = let inside = k.inside in omega arith

    in_rows : step < length rows
    in_rows = omega (arith, long)

    from_here : drop step rows ≡ here ∷ drop (suc step) rows
    from_here =
        drop-cons rows step here in_rows
        ∙ ap (λ (r : Row). r ∷ drop (suc step) rows)
        (get_or-take steps (rows_of bytes) step here h ∙ row_at_lem bytes step here in_bytes)

    open_behind : (live (next k.scan here) ≡ true)
        × (scan_from next live (suc step) (next k.scan here) (drop (suc step) rows) ≡ all steps)
    open_behind =
        first_open step steps k.scan here (drop (suc step) rows)
        (ap (scan_from next live step k.scan) (sym from_here) ∙ k.alive)

    fits : Fit (next k.scan here)
    fits = next_fit k.scan here k.fit open_behind.0

    -- the row as it is read
    module _ {r : Row} (read : r ≡ here) where
      pub sent_within : channel_of r.sent_k1 ≤ 14
      unfolding next
      sent_within = rw read fits.sent

      module _ {after : Records} (is : after ≡ followed possible r) where
        follows : (after.controller ≡ (next k.scan here).controller) × (after.heard ≡ (next k.scan here).heard)
        follows = rw (is, read) (followed_live k.scan here open_behind.0 possible k.same k.heard)

        pub accepted_within : channel_of after.controller.k1 ≤ 14
        accepted_within = rw follows.0 fits.accepted

        pub keeping_next : {word word2 : ℕ} → word ≡ conditions_kept possible.controller possible.heard r.sent_k1
            → word2 ≡ command_kept hold possible.controller after.controller.k1 r.sent_k1
            → Keeping hold bytes steps begin after (set table step word) (set table2 step word2) (step + 1)
        keeping_next {word} {word2} e f =
            let e' : word ≡ conditions_of k.scan here =
            e ∙ (λ i. conditions_kept (k.same i) (k.heard i) (read i).sent_k1) in
            let f' : word2 ≡ commands_of hold k.scan here =
            f ∙ (λ i. command_kept hold (k.same i) (follows.0 i).k1 (read i).sent_k1) in
            rw (add-one step)
            record {
              within = h;
              inside = k.inside;
              scan = next k.scan here;
              same = follows.0;
              heard = follows.1;
              fit = fits;
              alive = open_behind.1;
              ends = ap (ended k.scan) (sym from_here) ∙ k.ends;
              conditions = kept_next k.conditions here from_here in_rows e';
              commands = kept_next k.commands here from_here in_rows f';
            }
