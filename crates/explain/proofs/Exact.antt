-- The scan's verdict is the right one, and no other is.
use mathlib.Core.Path.{◌≡◌, refl, sym, ap, subst, ◌∙◌}
use mathlib.Core.Bool.{Bool, true, false, false≢true}
use mathlib.Core.List.{List, [], ◌∷◌}
use mathlib.Core.Logic.{◌↔◌, inl, inr, ⊎_elim}
use Prim.Native.Nat.{ℕ, suc, ◌+◌, ◌≤◌, ◌<◌}
use native.Mathlib.Nat.{zero-add}
use native.Mathlib.Numerals.{add-one}
use native.Mathlib.Omega.{arith}
use lib.Dec.{ltb, eqb}
use lib.ListN.{length, take}
use lib.Seq.{take_all, take-take}
use borrow.Author.Tests.{ltb-true, ltb-false, ne_eqb}
use Rattle.std.specs.Prelude.{if◌then◌else◌, Result, Ok, Err}
use Rattle.basics.specs.First.{Check, first_of}
use Rattle.basics.specs.Settings.{sections_fit, mask_fits}
use Rattle.controller.specs.Settings.{fresh}
use Rattle.controller.specs.declared.Controller.{Controller}
use Rattle.controller.proofs.Keeping.{fresh_acceptable}
use Rattle.basics.specs.Capture.{Row, rows_of}
use Rattle.explain.specs.Explained.{Cause, stepped, Sends, Explains, Explained}
use Rattle.explain.specs.Verdict.{Judging, explained_at, unexplained_at, told, judge_faults, Found, RightBehind, Right}
use Rattle.explain.specs.Scan.{Scanned, all, first, scan_from}
use Rattle.explain.specs.Trace.{start, live, next, verdict_of}
use Rattle.explain.specs.declared.Records.{Records}
use Rattle.basics.specs.Refusal.{refusal_number, refusal_with}
use Rattle.basics.specs.declared.refusal.Refusal.{Refusal}
use Rattle.basics.proofs.Refusals.{number_some, with_number}
use Rattle.explain.specs.declared.Verdict.{Verdict}
use Rattle.explain.specs.declared.Verdict.TheVariants as verdict
use Rattle.explain.proofs.Scanning.{Run, run_prefix, From, good_next, Says, scan_exact}
use Rattle.explain.proofs.Reached.{Able, able_next}
use Rattle.explain.proofs.Possible.{In, live_in, next_in}

abbrev Does : Controller → Cause → Row → Type 0
Does s cause r = Sends (stepped s cause r) r

abbrev after : Controller → Cause → Row → Controller
after s cause r = (stepped s cause r).controller

-- to explain is to run
explains_run : (s : Controller) (causes : List Cause) (rows : List Row) → Explains s causes rows ↔ Run Does after s causes rows
explains_run s [] [] = (λ h. h, λ h. h)
explains_run s [] (r ∷ rows) = (λ h. h, λ h. h)
explains_run s (c ∷ causes) [] = (λ h. h, λ h. h)
explains_run s (c ∷ causes) (r ∷ rows) =
    let rest = explains_run (after s c r) causes rows in
    (λ h. (h.0, rest.0 h.1), λ h. (h.0, rest.1 h.1))

-- behind a row, as before it
pub able_behind : (d : Records) (r : Row) → live d ≡ true → ((s : Controller) → In d s → Able s)
    → (u : Controller) → In (next d r) u → Able u
able_behind = good_next Does after In Able able_next next live live_in (λ d r u alive good. next_in d r false good u alive)

module _ (n : ℕ) (hold : Bool) (mask w : ℕ) where
  -- what is explained is explained up to each step
  pub explained_prefix : (rows : List Row) (i : ℕ) → Explained n hold mask w rows → Explained n hold mask w (take i rows)
  explained_prefix rows i (causes, h) =
      let run = (explains_run (fresh n hold mask w) causes rows).0 h in (
        take i causes,
        (explains_run (fresh n hold mask w) (take i causes) (take i rows)).1
            (run_prefix Does after i (fresh n hold mask w) causes rows run),
      )

  -- a step that is first cannot have an explained step behind it
  not_behind : (rows : List Row) (i j : ℕ) → i < j → Explained n hold mask w (take j rows)
      → (Explained n hold mask w (take (i + 1) rows) → ⊥) → ⊥
  not_behind rows i j h some none =
      let within : i + 1 ≤ j = omega arith in
      none (subst (Explained n hold mask w) (take-take (i + 1) j rows within) (explained_prefix (take j rows) (i + 1) some))

  first_one : (rows : List Row) (i j : ℕ) → Explained n hold mask w (take i rows) → Explained n hold mask w (take j rows)
      → (Explained n hold mask w (take (i + 1) rows) → ⊥) → (Explained n hold mask w (take (j + 1) rows) → ⊥) → i ≡ j
  first_one rows i j some some' none none' = go (ltb i j) (ltb j i) refl refl
    where
      go : (a b : Bool) → ltb i j ≡ a → ltb j i ≡ b → i ≡ j
      go true b e f = absurd (not_behind rows i j (ltb-true i j e) some' none)
      go false true e f = absurd (not_behind rows j i (ltb-true j i f) some none')
      go false false e f =
          let p = ltb-false i j e in
          let q = ltb-false j i f in
          omega arith

  found_one : (rows : List Row) (j k : Judging) → Found n hold mask w rows j → Found n hold mask w rows k → j ≡ k
  found_one rows j k (inl (e, some)) (inl (f, some')) = e ∙ sym f
  found_one rows j k (inl (e, some)) (inr (i, f, before, none)) = absurd (none (explained_prefix rows (i + 1) some))
  found_one rows j k (inr (i, e, before, none)) (inl (f, some)) = absurd (none (explained_prefix rows (i + 1) some))
  found_one rows j k (inr (i, e, before, none)) (inr (i', f, before', none')) =
      e ∙ ap unexplained_at (first_one rows i i' before before' none none') ∙ sym f

  -- one answer behind any refusals
  pub answer_one : (faults : List Check) (bytes : List ℕ) (j k : Judging)
      → RightBehind faults n hold mask w bytes j → RightBehind faults n hold mask w bytes k → j ≡ k
  unfolding RightBehind
  answer_one faults bytes j k = go (eqb (first_of faults) 0) refl
    where
      go : (t : Bool) → eqb (first_of faults) 0 ≡ t
          → RightBehind faults n hold mask w bytes j → RightBehind faults n hold mask w bytes k → j ≡ k
      go true e h h' = found_one (rows_of bytes) j k (rw e at h) (rw e at h')
      go false e h h' =
          let p = rw e at h in
          let q = rw e at h' in
          p ∙ sym q

-- the scan, which goes by the controller without hold
module _ (n mask w : ℕ) where
  abbrev begin : Records
  begin = start (fresh n false mask w)

  from_explained : (rows : List Row) → From Does after In begin rows ↔ Explained n false mask w rows
  from_explained rows = (forward, backward)
    where
      forward : From Does after In begin rows → Explained n false mask w rows
      forward (s, causes, inl (e, is), run) =
          (causes, (explains_run (fresh n false mask w) causes rows).1 (subst (λ (t : Controller). Run Does after t causes rows) is run))
      forward (s, causes, inr (e, is), run) = absurd (false≢true e)

      backward : Explained n false mask w rows → From Does after In begin rows
      backward (causes, h) =
          (fresh n false mask w, causes, inl (refl, refl), (explains_run (fresh n false mask w) causes rows).0 h)

  module _ (fits : sections_fit n ≡ true) (mask_right : mask_fits n mask ≡ true) where
    pub begin_able : (s : Controller) → In begin s → Able s
    begin_able s (inl (e, is)) =
        rw is record { fits = fits; mask_fits = mask_right; accepts = fresh_acceptable n false mask w fits; off = refl }
    begin_able s (inr (e, is)) = absurd (false≢true e)

    -- the verdict of the scan is right
    pub scan_right : (rows : List Row) → Found n false mask w rows (verdict_of (scan_from next live 0 begin rows))
    scan_right rows =
        said (scan_from next live 0 begin rows)
        (scan_exact Does after In Able able_next next live live_in (λ d r u alive good. next_in d r false good u alive) rows 0 begin
        refl begin_able)
      where
        said : (f : Scanned)
            → Says Does after In Able able_next next live live_in (λ d r u alive good. next_in d r false good u alive) 0 begin rows f
            → Found n false mask w rows (verdict_of f)
        said (all k) (e, some) = inl (ap explained_at (e ∙ zero-add (length rows)), (from_explained rows).0 some)
        said (first k) (j, e, some, none) =
            inr (
              j,
              ap unexplained_at (e ∙ zero-add j),
              (from_explained (take j rows)).0 some,
              λ h. none ((from_explained (take (suc j) rows)).1 (subst (λ (m : ℕ). Explained n false mask w (take m rows)) (add-one j) h)),
            )

module _ (n : ℕ) (hold : Bool) (mask w : ℕ) (bytes : List ℕ) (j : Judging) (right : Right n hold mask w bytes j)
    (none : first_of (judge_faults n mask (length bytes)) ≡ 0) where
  abbrev rows : List Row
  rows = rows_of bytes

  pub found : Found n hold mask w rows j
  unfolding RightBehind
  found = rw none at right

  pub explained_exact : (j ≡ explained_at (length rows)) ↔ Explained n hold mask w rows
  explained_exact = (forward, λ some. found_one n hold mask w rows j (explained_at (length rows)) found (inl (refl, some)))
    where
      forward : j ≡ explained_at (length rows) → Explained n hold mask w rows
      forward e =
          ⊎_elim (λ h. h.1)
          (λ h.
          let two : ◌≡◌ {A = ℕ} 1 2 = ap (λ (k : Judging). k.verdict) (sym e ∙ h.1) in
          absurd (omega arith)) found

  pub unexplained_exact : (i : ℕ)
      → (j ≡ unexplained_at i) ↔ (Explained n hold mask w (take i rows) × (Explained n hold mask w (take (i + 1) rows) → ⊥))
  unexplained_exact i = (
    forward,
    λ h. found_one n hold mask w rows j (unexplained_at i) found (inr (i, refl, h.0, h.1)),
  )
    where
      forward : j ≡ unexplained_at i → Explained n hold mask w (take i rows) × (Explained n hold mask w (take (i + 1) rows) → ⊥)
      forward e =
          ⊎_elim
          (λ h.
          let two : ◌≡◌ {A = ℕ} 2 1 = ap (λ (k : Judging). k.verdict) (sym e ∙ h.0) in
          absurd (omega arith))
          (λ h.
          let same : h.0 ≡ i = ap (λ (k : Judging). k.at) (sym h.1 ∙ e) in
          subst (λ (m : ℕ). Explained n hold mask w (take m rows) × (Explained n hold mask w (take (m + 1) rows) → ⊥)) same
          (h.2, h.3)) found

-- past the last step nothing changes
pub first_within : (n : ℕ) (hold : Bool) (mask w : ℕ) (rows : List Row) (i : ℕ) → Explained n hold mask w (take i rows)
    → (Explained n hold mask w (take (i + 1) rows) → ⊥) → i < length rows
first_within n hold mask w rows i some none = go (ltb i (length rows)) refl
  where
    go : (t : Bool) → ltb i (length rows) ≡ t → i < length rows
    go true e = ltb-true i (length rows) e
    go false e =
        let past = ltb-false i (length rows) e in
        let further : length rows ≤ i + 1 = omega arith in
        absurd (none (subst (Explained n hold mask w) (take_all i rows past ∙ sym (take_all (i + 1) rows further)) some))

-- the numbers decide the answer
abbrev case_of : Judging → Result Verdict Refusal
case_of j =
    if eqb j.refusal 0 then (if eqb j.verdict 1 then Ok (verdict.Explained j.at) else Ok (verdict.Unexplained j.at))
    else Err (refusal_with j.refusal)

case_told : (v : Result Verdict Refusal) → case_of (told v) ≡ v
case_told (Ok (verdict.Explained k)) = refl
case_told (Ok (verdict.Unexplained i)) = refl
case_told (Err e) = rw (ne_eqb (refusal_number e) 0 (number_some e), with_number e)

pub told_one : (a b : Result Verdict Refusal) → told a ≡ told b → a ≡ b
told_one a b h = sym (case_told a) ∙ ap case_of h ∙ case_told b
