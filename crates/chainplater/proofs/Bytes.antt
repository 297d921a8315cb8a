-- Laws behind the front door: records in bytes and back, a refused step's bytes, a refused write's, flags, and the judge's
-- one answer.
use mathlib.Core.Path.{◌≡◌, refl, sym, ap, ◌∙◌}
use mathlib.Core.Bool.{Bool, true, false, and-false, cond}
use mathlib.Core.List.{List, [], ◌∷◌}
use Prim.Native.Nat.{ℕ, zero, suc, ◌+◌, ◌*◌, ◌/◌, ◌%◌, ◌<◌}
use native.Mathlib.Omega.{arith}
use lib.Dec.{eqb}
use lib.ListN.{length, get_or, take, drop, replicate, drop_of_length-le}
use lib.Seq.{drop-cons, take_all}
use borrow.Author.Tests.{leb-true, eqb-true, eqb-false, lt-ltb, lt-leb}
use Rattle.basics.specs.Bytes.{four_bytes}
use Rattle.std.specs.Prelude.{if◌then◌else◌}
use Rattle.basics.specs.Fields.{fields_at, field_bytes}
use Rattle.basics.proofs.Fields.{fields_back, fields_again}
use Rattle.basics.specs.Settings.{sections_fit, options_fit, hold_of}
use Rattle.pair.specs.Coder.{encoding}
use Rattle.basics.specs.First.{first_of}
use Rattle.controller.specs.Settings.{making}
use Rattle.controller.specs.Refusals.{refusal}
use Rattle.controller.specs.Step.{refused_step, moved, step}
use Rattle.controller.specs.declared.Controller.{Controller}
use Rattle.controller.specs.Step.{Stepped}
use Rattle.controller.proofs.Keeping.{step_refused, step_keeps}
use Rattle.explain.specs.Hold.{recast}
use Rattle.explain.specs.Verdict.{Judging, refused_by, judge_faults, Right}
use Rattle.explain.specs.Causes.{Untouched, Causes, fixed_in}
use Rattle.explain.proofs.Exact.{answer_one}
use Rattle.explain.proofs.Tables.{verdict_one, fixed_one}
use Rattle.book.specs.Writer.{write_refusal, Wrote, writing, output}
use Rattle.book.specs.declared.Contents.{Contents}
use Rattle.book.proofs.Books.{refused_writing}
use Rattle.chainplater.specs.Coder.{flag, encoding_bytes}
use Rattle.chainplater.specs.Record.{layout, fields, named, record_in, record_bytes, fresh_for, outcome_bytes}
use Rattle.chainplater.specs.Record.{options_faults, refused_bytes, step_bytes}
use Rattle.chainplater.specs.Given.{StepOf}
use Rattle.chainplater.specs.Verdict.{judging_bytes, Told, RightFor, Judged, CausesFor, CausesTold, fixed_by}

-- entries one by one, from place i on
abbrev entries_from : ℕ → ℕ → List ℕ → List ℕ
entries_from zero i bytes = []
entries_from (suc k) i bytes = get_or bytes i 0 ∷ entries_from k (suc i) bytes

pub listed_all : (k i : ℕ) (bytes : List ℕ) → i + k ≡ length bytes → drop i bytes ≡ entries_from k i bytes
listed_all zero i bytes long = drop_of_length-le bytes {i = i} (omega arith)
listed_all (suc k) i bytes long =
    drop-cons bytes i 0 (omega arith) ∙ ap (λ (rest : List ℕ). get_or bytes i 0 ∷ rest) (listed_all k (suc i) bytes (omega arith))

-- the first six of twelve
pub first_six : (bytes : List ℕ) → length bytes ≡ 12 → take 6 bytes ≡ entries_from 6 0 bytes
first_six bytes long = ap (take 6) (listed_all 12 0 bytes (sym long))

pub record_size : (s : Controller) → length (record_bytes s) ≡ 12
unfolding record_bytes
record_size s = refl

pub outcome_size : (o : Stepped) → length (outcome_bytes o) ≡ 19
unfolding record_bytes outcome_bytes
outcome_size o = refl

-- options as the byte of a setting, and back
hold_back : (hold : Bool) → hold_of (flag hold) ≡ hold
hold_back true = refl
hold_back false = refl

options_back : (options : ℕ) → options_fit options ≡ true → flag (hold_of options) ≡ options
options_back options fits = go (eqb options 1) refl
  where
    go : (t : Bool) → eqb options 1 ≡ t → flag (hold_of options) ≡ options
    go true e = rw e (sym (eqb-true options 1 e))
    go false e =
        let most = leb-true options 1 fits in
        let other = eqb-false options 1 e in
        let none : options ≡ 0 = omega arith in
        rw e (sym none)

pub record_back : (s : Controller) → record_in (record_bytes s) ≡ s
unfolding record_in record_bytes
record_back s =
    ap named (fields_back layout (fields s) [] [] refl) ∙ (λ i. recast (hold_back s.hold i) s.held s)

module _ (bytes : List ℕ) (long : length bytes ≡ 12) (small : (i : ℕ) → get_or bytes i 0 < 256) where
  -- with options that a record has
  module _ (fits : options_fit (get_or bytes 1 0) ≡ true) where
    pub record_again : record_bytes (record_in bytes) ≡ bytes
    unfolding record_in record_bytes
    record_again =
        ap (λ (options : ℕ). field_bytes layout (with_options options)) (options_back (get_or bytes 1 0) fits)
        ∙ fields_again bytes small layout 0 (omega arith)
        ∙ take_all 12 bytes (omega arith)
      where
        with_options : ℕ → List ℕ
        with_options options = let values = fields_at layout bytes 0 in get_or values 0 0 ∷ options ∷ drop 2 values

    module _ (k1 k2 : ℕ) (conditions : List ℕ) (command c : ℕ) where
      none_refused : refusal (record_in bytes) conditions command c ≡ 0
          → (step (record_in bytes) k1 k2 conditions command c).refusal ≡ 0
      unfolding step moved
      none_refused z = rw z

      refused_outcome : let o = step (record_in bytes) k1 k2 conditions command c in
          (o.refusal ≡ 0 → ⊥) → outcome_bytes o ≡ refused_bytes o.refusal bytes
      unfolding outcome_bytes
      refused_outcome some =
          let number = refusal (record_in bytes) conditions command c in
          rw (step_refused (record_in bytes) k1 k2 conditions command c (λ z. some (none_refused z)))
          (ap (refused_bytes number) record_again)

  -- refused, for its options or as any step: the number, the bytes as they were given, zeros
  pub refused_step_lem : (k1 k2 : ℕ) (conditions : List ℕ) (command c : ℕ) →
      let out = step_bytes bytes k1 k2 conditions command c in
      (get_or out 0 0 ≡ 0 → ⊥) → out ≡ refused_bytes (get_or out 0 0) bytes
  unfolding step_bytes outcome_bytes
  refused_step_lem k1 k2 conditions command c some = go (options_fit (get_or bytes 1 0)) refl some
    where
      go : (t : Bool) → options_fit (get_or bytes 1 0) ≡ t →
          let out = step_bytes bytes k1 k2 conditions command c in
          (get_or out 0 0 ≡ 0 → ⊥) → out ≡ refused_bytes (get_or out 0 0) bytes
      go true e refused = rw e (refused_outcome e k1 k2 conditions command c (rw e at refused))
      go false e refused = rw e refl

-- the bytes of an answer, from those that were given
module _ (bytes : List ℕ) (o : Stepped) (of : StepOf bytes o) (small : (i : ℕ) → get_or bytes i 0 < 256) where
  pub refused_given : (o.refusal ≡ 0 → ⊥) → refused_bytes o.refusal bytes ≡ outcome_bytes o
  unfolding outcome_bytes
  refused_given some =
      ap (refused_bytes o.refusal) (sym (record_again bytes of.long small of.fits))
      ∙ ap outcome_bytes (sym (of.refused some))

  pub settled : entries_from 6 0 bytes ≡ take 6 (record_bytes o.controller)
  unfolding record_bytes
  settled =
      sym (first_six bytes of.long)
      ∙ ap (take 6) (sym (record_again bytes of.long small of.fits))
      ∙ (λ i.
      sym of.sections i
      ∷ flag (sym of.setting i)
      ∷ sym of.priorities i / 256
      ∷ sym of.priorities i % 256
      ∷ sym of.wait i / 256
      ∷ sym of.wait i % 256
      ∷ [])

-- the answer of a step of a record that was given, refused or not
pub step_of : (bytes : List ℕ) → length bytes ≡ 12 → options_fit (get_or bytes 1 0) ≡ true → (k1 k2 : ℕ) (conditions : List ℕ) (command c : ℕ)
    → StepOf bytes (step (record_in bytes) k1 k2 conditions command c)
unfolding step moved
step_of bytes long fits k1 k2 conditions command c = go (eqb (refusal (record_in bytes) conditions command c) 0) refl
  where
    s : Controller
    s = record_in bytes

    o : Stepped
    o = step s k1 k2 conditions command c

    go : (t : Bool) → eqb (refusal s conditions command c) 0 ≡ t → StepOf bytes (step (record_in bytes) k1 k2 conditions command c)
    go true e =
        let none : o.refusal ≡ 0 = rw e in
        let kept = (step_keeps s k1 k2 conditions command c none).0 in
        record {
          long = long;
          fits = fits;
          sections = kept.sections;
          setting = kept.setting;
          priorities = kept.priorities;
          wait = kept.wait;
          refused = λ some. absurd (some none);
        }
    go false e =
        let back = step_refused s k1 k2 conditions command c (eqb-false (refusal s conditions command c) 0 e) in
        let same = ap (λ (x : Stepped). x.controller) back in
        record {
          long = long;
          fits = fits;
          sections = ap (λ (x : Controller). x.n) same;
          setting = ap (λ (x : Controller). x.hold) same;
          priorities = ap (λ (x : Controller). x.mask) same;
          wait = ap (λ (x : Controller). x.w) same;
          refused = λ some. back ∙ ap (λ (k : ℕ). refused_step k s) (sym (ap (λ (x : Stepped). x.refusal) back));
        }

-- by the options
pub fresh_for_lem : (n options mask w : ℕ) → options_fit options ≡ true
    → fresh_for n options mask w ≡ making n (hold_of options) mask w
unfolding fresh_for
fresh_for_lem n options mask w fits = rw fits

pub above_refused : (n options mask w : ℕ) (capture : List ℕ) (j : Judging) → 1 < options
    → ((fresh_for n options mask w).refusal ≡ 25) × (RightFor n options mask w capture j → j ≡ refused_by 25)
unfolding fresh_for RightFor
above_refused n options mask w capture j above =
    let none = lt-leb options 1 above in (rw none, λ right. rw none at right)

pub above_step : (bytes : List ℕ) (k1 k2 : ℕ) (conditions : List ℕ) (command c : ℕ) → 1 < get_or bytes 1 0
    → get_or (step_bytes bytes k1 k2 conditions command c) 0 0 ≡ first_of (options_faults (record_in bytes))
unfolding step_bytes
above_step bytes k1 k2 conditions command c above = rw (lt-leb (get_or bytes 1 0) 1 above)

-- a refused write leaves the output, and says a size of 0
module _ (contents : Contents) (bodies out : List ℕ) where
  unrefused : write_refusal contents (length bodies) (length out) ≡ 0
      → (writing contents (length bodies) (length out)).refusal ≡ 0
  unfolding writing
  unrefused z = rw z

  pub refused_write : let wrote = writing contents (length bodies) (length out) in
      (wrote.refusal ≡ 0 → ⊥) → (output contents bodies out ≡ out) × (four_bytes wrote.bytes ≡ replicate 4 0)
  refused_write some =
      let left = refused_writing contents bodies out (λ z. some (unrefused z)) in
      (left.1, ap (λ (wrote : Wrote). four_bytes wrote.bytes) left.0)

-- a flag is taken as it is answered, and one above 1 is refused
module _ (n code channel bridged : ℕ) where
  pub flag_taken : (remote : Bool)
      → encoding_bytes n code channel bridged (flag remote)
      ≡ encoding n (record { code = code; channel = channel; bridged = bridged; remote = remote })
  unfolding encoding_bytes
  flag_taken true = rw (and-false (sections_fit n))
  flag_taken false = rw (and-false (sections_fit n))

  pub flag_refused : (remote : ℕ) → sections_fit n ≡ true → 1 < remote
      → encoding_bytes n code channel bridged remote ≡ record { refusal = 10; k1 = 0; k2 = 0 }
  unfolding encoding_bytes
  flag_refused remote fits above = rw (fits, lt-ltb 1 remote above)

-- two answers of the judge that its promise allows, where what they hold makes them one
module _ {Holds Holds2 : Judging → Type 0} {r r2 : ℕ} {out out2 : List ℕ} (p : Told Holds r out) (q : Told Holds2 r2 out2)
    (one : p.answer ≡ q.answer) where
  pub same_refusal : r ≡ r2
  same_refusal = p.number ∙ ap (λ (j : Judging). j.refusal) one ∙ sym q.number

  pub same_bytes : out ≡ out2
  same_bytes = p.bytes ∙ ap judging_bytes one ∙ sym q.bytes

-- one right answer, by the options
right_one : (n options mask w : ℕ) (capture : List ℕ) (j k : Judging) → RightFor n options mask w capture j
    → RightFor n options mask w capture k → j ≡ k
unfolding RightFor
right_one n options mask w capture j k = go (options_fit options)
  where
    go : (t : Bool) → cond t (Right n (hold_of options) mask w capture j) (j ≡ refused_by 25)
        → cond t (Right n (hold_of options) mask w capture k) (k ≡ refused_by 25) → j ≡ k
    go true p q = answer_one n (hold_of options) mask w (judge_faults n mask (length capture)) capture j k p q
    go false p q = p ∙ sym q

pub judged_one : (n options mask w : ℕ) (capture : List ℕ) {r r2 : ℕ} {out out2 : List ℕ}
    (p : Judged n options mask w capture r out) (q : Judged n options mask w capture r2 out2) → p.answer ≡ q.answer
judged_one n options mask w capture p q =
    right_one n options mask w capture p.answer q.answer p.right q.right

-- with causes: the entries of the tables that are never chosen are those by the bytes
fixed_by_lem : {Holds : Judging → Type 0} {r : ℕ} {out : List ℕ} (p : Told Holds r out) (table : List ℕ)
    → fixed_by out table ≡ fixed_in p.answer table
fixed_by_lem p table =
    let at : 256 * (p.answer.at / 256) + p.answer.at % 256 ≡ p.answer.at = omega arith in
    ap (λ (bytes : List ℕ). fixed_by bytes table) p.bytes
    ∙ ap (λ (k : ℕ). if eqb p.answer.verdict 1 then drop k table else table) at

-- what the promise of the causes decides, by the options
module _ (n options mask w : ℕ) (capture old old2 new new2 after after2 : List ℕ) (j k : Judging) where
  abbrev Decides : Type 0
  Decides = (j ≡ k) × (fixed_in j new ≡ fixed_in k after) × (fixed_in j new2 ≡ fixed_in k after2)

  decides : CausesFor n options mask w capture old old2 new new2 j → CausesFor n options mask w capture old old2 after after2 k
      → Decides
  unfolding CausesFor
  decides = go (options_fit options)
    where
      refused : {m : Judging} {table before : List ℕ} → m ≡ refused_by 25 → table ≡ before → fixed_in m table ≡ before
      refused {table = table} e same = ap (λ (m : Judging). fixed_in m table) e ∙ same

      go : (t : Bool)
          → cond t (Causes n (hold_of options) mask w capture old old2 j new new2)
          ((j ≡ refused_by 25) × Untouched old old2 new new2)
          → cond t (Causes n (hold_of options) mask w capture old old2 k after after2)
          ((k ≡ refused_by 25) × Untouched old old2 after after2)
          → Decides
      go true p q = let tables = fixed_one p q in (verdict_one p q, tables.0, tables.1)
      go false p q = (
        p.0 ∙ sym q.0,
        refused p.0 p.1.0 ∙ sym (refused q.0 q.1.0),
        refused p.0 p.1.1 ∙ sym (refused q.0 q.1.1),
      )

module _ (n options mask w : ℕ) (capture old old2 new new2 after after2 : List ℕ) {r r2 : ℕ} {out out2 : List ℕ}
    (p : CausesTold n options mask w capture old old2 r new new2 out)
    (q : CausesTold n options mask w capture old old2 r2 after after2 out2) where
  decided : Decides n options mask w capture old old2 new new2 after after2 p.answer q.answer
  decided = decides n options mask w capture old old2 new new2 after after2 p.answer q.answer p.right q.right

  pub causes_one : p.answer ≡ q.answer
  causes_one = decided.0

  pub same_conditions : fixed_by out new ≡ fixed_by out2 after
  same_conditions = fixed_by_lem p new ∙ decided.1 ∙ sym (fixed_by_lem q after)

  pub same_commands : fixed_by out new2 ≡ fixed_by out2 after2
  same_commands = fixed_by_lem p new2 ∙ decided.2 ∙ sym (fixed_by_lem q after2)
