-- A run of rows that repeat the one before is passed over at once.
use mathlib.Core.Path.{◌≡◌, refl, sym, ap, subst, ◌∙◌}
use mathlib.Core.Bool.{Bool, true, false, ◌&&◌, false≢true}
use mathlib.Core.List.{List, [], ◌∷◌}
use Prim.Native.Nat.{ℕ, zero, suc, ◌+◌, ◌-◌, ◌≤◌}
use native.Mathlib.Omega.{arith}
use lib.Dec.{ltb}
use lib.ListN.{drop}
use borrow.Author.Tests.{eqb-true, ltb-true, ltb-false}
use Rattle.basics.specs.Capture.{Row}
use Rattle.std.specs.Prelude.{if◌then◌else◌}
use Rattle.request.specs.declared.Request.{Request}
use Rattle.controller.specs.Rules.{asked, is_wait}
use Rattle.controller.specs.Step.{wait_of}
use Rattle.repeats.specs.Repeats.{same_row, run_of}
use Rattle.repeats.proofs.Runs.{same_is}
use Rattle.explain.specs.Scan.{scan_from}
use Rattle.explain.specs.Trace.{live, next, takes_wait, passes, with_left, passed}
use Rattle.explain.specs.declared.Records.{Records}
use Rattle.explain.proofs.Repeating.{repeat_next}

-- some records stand behind the row, and something is left
pub record Behind (r : Row) (e : Records) : Type 0 where
  pub before : Records
  pub by : e ≡ next before r
  pub alive : live e ≡ true

abbrev waits : Records → Bool
waits e = is_wait (asked e.controller.sent).code

sent_behind : (d : Records) (r : Row) → (next d r).controller.sent ≡ r.sent_k1
unfolding next
sent_behind d r = refl

-- as many rows do not outlast the wait
abbrev pub Lasts : Records → ℕ → Type 0
Lasts e k = waits e ≡ true → k ≤ e.controller.left - 1

behind_next : (r : Row) (e : Records) → Behind r e → Lasts e 1 → next e r ≡ passed e 1
behind_next r e behind lasts =
    subst (λ (m : Records). next m r ≡ passed m 1) (sym by)
    (repeat_next before r (ap live (sym by) ∙ behind.alive)
    (λ wait.
    let left = ap (λ (m : Records). m.controller.left) by in
    let so =
    lasts (ap (λ (m : Records). waits m) by ∙ ap (λ (k : ℕ). is_wait (asked k).code) (sent_behind before r) ∙ wait) in
    omega arith))
  where
    before : Records
    before = behind.before

    by : e ≡ next before r
    by = behind.by

passed_twice : (e : Records) (j k : ℕ) → passed (passed e j) k ≡ passed e (j + k)
passed_twice e j k =
    let left = e.controller.left in
    let less : left - j - k ≡ left - (j + k) = omega arith in
    ap (with_left e) less

pub scan_past : (k : ℕ) (rows : List Row) (r : Row) (e : Records) (i : ℕ) → Behind r e → k ≤ run_of r rows → Lasts e k
    → scan_from next live i e rows ≡ scan_from next live (i + k) (passed e k) (drop k rows)
scan_past zero rows r e i behind few lasts =
    let here : i ≡ i + 0 = omega arith in
    let left : e.controller.left ≡ e.controller.left - 0 = omega arith in
    λ j. scan_from next live (here j) (with_left e (left j)) rows
scan_past (suc k) [] r e i behind few lasts = absurd (omega arith)
scan_past (suc k) (q ∷ rows) r e i behind few lasts = go (same_row r q) refl (λ j m. scan_past k rows r m j)
  where
    go : (t : Bool) → same_row r q ≡ t
        → ((j : ℕ) (m : Records) → Behind r m → k ≤ run_of r rows → Lasts m k
        → scan_from next live j m rows ≡ scan_from next live (j + k) (passed m k) (drop k rows))
        → scan_from next live i e (q ∷ rows) ≡ scan_from next live (i + suc k) (passed e (suc k)) (drop (suc k) (q ∷ rows))
    go true same later =
        let few2 : suc k ≤ suc (run_of r rows) = rw same at few in
        let one = behind_next r e behind (λ wait. let so = lasts wait in omega arith) in
        let two = ap (next e) (sym (same_is r q same)) ∙ one in
        let alive : live (next e q) ≡ true = ap live two ∙ behind.alive in
        let here : suc i + k ≡ i + suc k = omega arith in
        let on : 1 + k ≡ suc k = omega arith in
        let rest =
        later (suc i) (passed e 1) (record { before = e; by = sym one; alive = behind.alive }) (omega arith)
        (λ wait. let so = lasts wait in omega arith) in
        (rw alive (ap (λ (m : Records). scan_from next live (suc i) m rows) two))
        ∙ rest
        ∙ ap (λ (m : Records). scan_from next live (suc i + k) m (drop k rows)) (passed_twice e 1 k)
        ∙ (λ j. scan_from next live (here j) (passed e (on j)) (drop k rows))
    go false differs later = let none : suc k ≤ 0 = rw differs at few in absurd (omega arith)

-- what is passed over is not more than there is, and lasts
least : (w : Bool) (now run : ℕ) →
    let few = if w && ltb now run then now else run in
    (few ≤ run) × (w ≡ true → few ≤ now)
least false now run = (omega arith, λ e. absurd (false≢true e))
least true now run = go (ltb now run) refl
  where
    go : (t : Bool) → ltb now run ≡ t →
        let few = if true && ltb now run then now else run in
        (few ≤ run) × (true ≡ true → few ≤ now)
    go true h = let less = ltb-true now run h in rw h (omega arith, λ e. omega arith)
    go false h = let more = ltb-false now run h in rw h (omega arith, λ e. omega arith)

module _ (e : Records) (run : ℕ) where
  abbrev now : ℕ
  now = wait_of e.controller (asked e.controller.sent) 0

  pub passes_most : passes e run ≤ run
  passes_most = (least (takes_wait (asked e.controller.sent)) now run).0

  pub passes_last : Lasts e (passes e run)
  passes_last wait =
      let code = eqb-true (asked e.controller.sent).code 0b0110 wait in
      let is : now ≡ e.controller.left - 1 = rw code refl in
      subst (λ (k : ℕ). passes e run ≤ k) is ((least (takes_wait (asked e.controller.sent)) now run).1 wait)

-- the test that the function makes
pub passes_by : (e : Records) (run : ℕ) {last : Request} {now : ℕ} → last ≡ asked e.controller.sent
    → now ≡ wait_of e.controller last 0 → (t : Bool) → takes_wait last && ltb now run ≡ t → (if t then now else run) ≡ passes e run
passes_by e run {last} {now} is waiting t test =
    let behind : now ≡ wait_of e.controller (asked e.controller.sent) 0 =
    waiting ∙ ap (λ (y : Request). wait_of e.controller y 0) is in
    (λ i. if sym test i then now else run) ∙ (λ i. if takes_wait (is i) && ltb (behind i) run then behind i else run)

pub scan_run : (d : Records) (r : Row) (rows : List Row) (i : ℕ) → live (next d r) ≡ true →
    let few = passes (next d r) (run_of r rows) in
    scan_from next live i (next d r) rows ≡ scan_from next live (i + few) (passed (next d r) few) (drop few rows)
scan_run d r rows i goes =
    let e = next d r in
    let run = run_of r rows in
    scan_past (passes e run) rows r e i (record { before = d; by = refl; alive = goes }) (passes_most e run) (passes_last e run)
