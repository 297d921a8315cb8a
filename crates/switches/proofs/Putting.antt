-- Putting the changes from a step on into a table, behind those before it.
use mathlib.Core.Path.{◌≡◌, sym, ap, ◌∙◌}
use mathlib.Core.List.{List, [], ◌∷◌, ◌++◌}
use Prim.Native.Nat.{ℕ, ◌+◌, ◌≤◌, ◌<◌}
use native.Mathlib.Omega.{arith}
use lib.ListN.{length, set, drop, length-append, length-drop, drop_of_length-le}
use lib.Seq.{sets, length-sets, drop-append-le}
use Rattle.basics.proofs.Bytes.{sets_joined}
use Rattle.switches.specs.Changes.{changes}
use Rattle.switches.specs.Walk.{sent_of, first_changes, Fits}
use Rattle.switches.proofs.Walking.{here, sent_many, At, differs, agrees, at_next, first_same, first_more, first_few, first_fewer}

pub record Putting (rows : List (List ℕ)) (known : ℕ) (begun table : List ℕ) (before number step : ℕ) : Type 0 where
  pub at : At rows before step
  pub small : length rows ≤ 16384
  pub count : number ≡ length (first_changes (sent_of rows) step)
  pub more : known ≤ number
  pub room : length (changes (sent_of rows)) ≤ length begun
  pub content : table ≡ sets begun known (drop known (first_changes (sent_of rows) step))

pub putting_start : {rows : List (List ℕ)} {from known : ℕ} {table : List ℕ} {before : ℕ} → Fits rows from known table
    → At rows before from → Putting rows known table table before known from
putting_start {rows} {from} {known} fits at =
    let none : drop known (first_changes (sent_of rows) from) ≡ [] =
    drop_of_length-le (first_changes (sent_of rows) from) {i = known} (let e = fits.count in omega arith) in
    record {
      at = at;
      small = fits.small;
      count = fits.count;
      more = omega arith;
      room = fits.room;
      content = rw none;
    }

-- one entry more, behind those that were put
one_more : (begun table list : List ℕ) (known number step : ℕ) → number ≡ length list → known ≤ number
    → table ≡ sets begun known (drop known list)
    → set table number step ≡ sets begun known (drop known (list ++ (step ∷ [])))
one_more begun table list known number step count more content =
    let e : known + length (drop known list) ≡ number = simp length-drop (omega arith) in
    let h : known ≤ length list = omega arith in
    rw (drop-append-le known list (step ∷ []) h)
    (sets_joined (drop known list) (step ∷ []) begun table (set table number step) known content
    (ap (λ (k : ℕ). set table k step) (sym e)))

module _ {rows : List (List ℕ)} {known : ℕ} {begun table : List ℕ} {before number step : ℕ}
    (p : Putting rows known begun table before number step) where
  pub putting_few : number ≤ step
  putting_few = let count = p.count in omega (arith, first_few rows step)

  -- where the step counts there is an entry left for it
  pub putting_room : step < length rows → (here rows step ≡ before → ⊥) → number < length table
  putting_room h other =
      let more = ap length (first_more rows step (differs p.at other)) in
      let long = length-append (first_changes (sent_of rows) step) (step ∷ []) in
      let fewer = first_fewer rows (step + 1) (length (sent_of rows)) (let all = sent_many rows in omega arith) in
      let count = p.count in
      let room = p.room in
      omega (arith, ap length p.content, length-sets begun known (drop known (first_changes (sent_of rows) step)))

  pub putting_more : step < length rows → (here rows step ≡ before → ⊥)
      → Putting rows known begun (set table number step) (here rows step) (number + 1) (step + 1)
  putting_more h other =
      let is = first_more rows step (differs p.at other) in
      let count = p.count in
      let more = p.more in
      record {
        at = at_next p.at h;
        small = p.small;
        count = omega (arith, ap length is, length-append (first_changes (sent_of rows) step) (step ∷ []));
        more = omega arith;
        room = p.room;
        content =
            one_more begun table (first_changes (sent_of rows) step) known number step p.count p.more p.content
            ∙ ap (λ (l : List ℕ). sets begun known (drop known l)) (sym is);
      }

  pub putting_same : step < length rows → here rows step ≡ before → Putting rows known begun table (here rows step) number (step + 1)
  putting_same h same =
      let is = first_same rows step (agrees p.at same) in
      record {
        at = at_next p.at h;
        small = p.small;
        count = p.count ∙ ap length (sym is);
        more = p.more;
        room = p.room;
        content = p.content ∙ ap (λ (l : List ℕ). sets begun known (drop known l)) (sym is);
      }
