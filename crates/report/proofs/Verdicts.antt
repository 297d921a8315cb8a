-- The right verdicts: every capture has one, and no other.
use mathlib.Core.Path.{◌≡◌, refl, sym, ap, subst, ◌∙◌}
use mathlib.Core.Bool.{Bool, true, false, true≢false}
use mathlib.Core.List.{List, [], ◌∷◌}
use mathlib.Core.Logic.{⊎_elim}
use Prim.Native.Nat.{ℕ}
use lib.Dec.{eqb}
use lib.ListN.{length}
use Rattle.basics.specs.Capture.{most, rows_of, size_faults}
use Rattle.basics.specs.First.{◌when◌, first_of}
use Rattle.basics.specs.Refusal.{refusal_number, refusal_with}
use Rattle.basics.specs.Settings.{sections_fit, mask_fits}
use Rattle.book.specs.Format.{hold_in, body_of}
use Rattle.book.specs.declared.Entry.{Entry}
use Rattle.controller.specs.Settings.{fresh}
use Rattle.explain.specs.Verdict.{Judging, refused_by, told, judge_faults, RightBehind, Right}
use Rattle.explain.specs.declared.Verdict.TheVariants as verdict
use Rattle.explain.proofs.Exact.{answer_one, told_one}
use Rattle.explain.specs.Trace.{scanned}
use Rattle.explain.proofs.Judged.{scanned_right, right_some}
use Rattle.std.proofs.Common.{Ok, Err, not, ltb, ◌%◌}
use Rattle.report.specs.Table.{Answered, IsVerdict, AreVerdicts}

-- the judge's refusals are numbered ones
abbrev number : (t u v w : Bool) → ℕ
number t u v w = first_of ((1 when t) ∷ (2 when u) ∷ (8 when v) ∷ (9 when w) ∷ [])

numbered : (t u v w : Bool) → eqb (number t u v w) 0 ≡ false → refusal_number (refusal_with (number t u v w)) ≡ number t u v w
numbered true u v w some = refl
numbered false true v w some = refl
numbered false false true w some = refl
numbered false false false true some = refl
numbered false false false false some = absurd (true≢false some)

-- the answer that a right one stands for
right_case : (n : ℕ) (hold : Bool) (mask w : ℕ) (bytes : List ℕ) (j : Judging) → Right n hold mask w bytes j
    → (v : Answered) × (told v ≡ j)
unfolding RightBehind
right_case n hold mask w bytes j right = go (eqb (first_of (judge_faults n mask (length bytes))) 0) refl
  where
    go : (t : Bool) → eqb (first_of (judge_faults n mask (length bytes))) 0 ≡ t → (v : Answered) × (told v ≡ j)
    go true e =
        ⊎_elim {C = (v : Answered) × (told v ≡ j)} (λ found. (Ok (verdict.Explained (length (rows_of bytes))), sym found.0))
        (λ found. (Ok (verdict.Unexplained found.0), sym found.1)) (rw e at right)
    go false e = (
      Err (refusal_with (first_of (judge_faults n mask (length bytes)))),
      ap refused_by (numbered (not (sections_fit n)) (not (mask_fits n mask)) (not (eqb (length bytes % 4) 0)) (ltb most (length bytes)) e)
          ∙ sym (rw e at right),
    )

module _ (book : List ℕ) where
  pub judged_some : (e : Entry) → (v : Answered) × IsVerdict book e v
  judged_some e =
      let some = right_some e.n (hold_in e) e.mask e.w (body_of book e) (size_faults (length (body_of book e))) in
      let case = right_case e.n (hold_in e) e.mask e.w (body_of book e) some.0 some.1 in
      (case.0, subst (Right e.n (hold_in e) e.mask e.w (body_of book e)) (sym case.1) some.1)

  -- and it is what the judge's scan gives, which goes without hold and can be computed
  pub scanned_judged : (e : Entry) (v : Answered) → sections_fit e.n ≡ true → mask_fits e.n e.mask ≡ true
      → first_of (size_faults (length (body_of book e))) ≡ 0
      → scanned (fresh e.n false e.mask e.w) (body_of book e) ≡ told v → IsVerdict book e v
  scanned_judged e v fits mask_Fits size same =
      subst (Right e.n (hold_in e) e.mask e.w (body_of book e)) same
      (scanned_right e.n (hold_in e) e.mask e.w (body_of book e) (size_faults (length (body_of book e))) fits mask_Fits size)

  pub judged_one : (e : Entry) (v v' : Answered) → IsVerdict book e v → IsVerdict book e v' → v ≡ v'
  judged_one e v v' p q = told_one v v' (answer_one _ _ _ _ _ _ _ _ p q)

  abbrev pub verdicts : List Entry → List Answered
  verdicts [] = []
  verdicts (e ∷ entries) = (judged_some e).0 ∷ verdicts entries

  pub all_some : (entries : List Entry) → AreVerdicts book entries (verdicts entries)
  all_some [] = tt
  all_some (e ∷ entries) = ((judged_some e).1, all_some entries)

  pub all_one : (entries : List Entry) (vs : List Answered) → AreVerdicts book entries vs → vs ≡ verdicts entries
  all_one [] [] all = refl
  all_one (e ∷ entries) (v ∷ vs) all =
      ap (λ (u : Answered). u ∷ vs) (judged_one e v (judged_some e).0 all.0 (judged_some e).1)
      ∙ ap (λ (us : List Answered). (judged_some e).0 ∷ us) (all_one entries vs all.1)
  all_one [] (v ∷ vs) all = absurd all
  all_one (e ∷ entries) [] all = absurd all
