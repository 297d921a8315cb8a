-- The front door: what is proved of the shared definitions, each theorem in full with the line that cites its proof.
use mathlib.Core.Path.{◌≡◌}
use mathlib.Core.Bool.{Bool, true, false}
use mathlib.Core.List.{List, ◌++◌}
use mathlib.Core.Logic.{◌↔◌}
use Prim.Native.Nat.{ℕ, ◌+◌, ◌%◌, ◌≤◌, ◌<◌}
use lib.ListN.{length, get_or, take, drop}
use lib.Seq.{sets}
use Rattle.basics.specs.Capture.{most, size_faults}
use Rattle.basics.specs.First.{CheckFor, Check, first_or, first_error, applies_at, answer_or, FirstAt, first_of}
use Rattle.basics.specs.Answer.{Answers}
use Rattle.basics.specs.Bytes.{two_at, four_at, two_bytes, four_bytes}
use Rattle.basics.specs.Fields.{Width, size_of, fields_at, field_bytes}
use Rattle.basics.specs.Settings.{sections_fit, mask_fits, settings_checks}
use Rattle.basics.specs.Table.{every, values}
use Rattle.basics.proofs.Fitting.{settings_fit_lem, fit_settings, size_fits, fit_size}
use Rattle.basics.proofs.Table.{at_entry, entry_is}
use Rattle.basics.proofs.First.{first_given, first_shown, others, none_of, CountedFrom, first_exact, numbered, none_exact}
use Rattle.basics.proofs.Bytes.{two_back, four_back}
use Rattle.basics.proofs.Fields.{fields_back, fields_again}
use denote.RattleType.{RattleType}
use denote.Param.Laws.{Laws, IsCopy}
use mir.Syntax.{Dict}
use Rattle.std.specs.declared.clone.Clone.{Ghosts}
use Rattle.basics.specs.Refusal.{refusal_number, refusal_with, refusal_told}
use Rattle.basics.specs.declared.refusal.Refusal.{Refusal}
use Rattle.basics.proofs.Refusals.{told_one, with_number, number_some, settings_told, error_none, none_error}
use Rattle.std.specs.Prelude.{Ok}
use Rattle.basics.proofs.One.{OneAnswer, OneContent, one_value, one_case}
use Rattle.basics.proofs.two_at.Kinds as two-at-kinds
use Rattle.basics.proofs.two_at.Reads as two-at
use Rattle.basics.proofs.two_at.Statement as two-at-statement
use Rattle.basics.proofs.two_at.Met as two-at-met
use Rattle.basics.proofs.four_at.Kinds as four-at-kinds
use Rattle.basics.proofs.four_at.Reads as four-at
use Rattle.basics.proofs.four_at.Statement as four-at-statement
use Rattle.basics.proofs.four_at.Met as four-at-met
use Rattle.basics.proofs.put_two.Kinds as put-two-kinds
use Rattle.basics.proofs.put_two.Reads as put_two
use Rattle.basics.proofs.put_two.Statement as put-two-statement
use Rattle.basics.proofs.put_two.Met as put-two-met
use Rattle.basics.proofs.put_four.Kinds as put-four-kinds
use Rattle.basics.proofs.put_four.Reads as put_four
use Rattle.basics.proofs.put_four.Statement as put-four-statement
use Rattle.basics.proofs.put_four.Met as put-four-met
use Rattle.basics.proofs.settings.sections_fit.Kinds as sections-fit-kinds
use Rattle.basics.proofs.settings.sections_fit.Reads as sections-fit
use Rattle.basics.proofs.settings.sections_fit.Statement as sections-fit-statement
use Rattle.basics.proofs.settings.sections_fit.Met as sections-fit-met
use Rattle.basics.proofs.settings.settings_refusal.Kinds as settings-refusal-kinds
use Rattle.basics.proofs.settings.settings_refusal.Reads as settings-refusal
use Rattle.basics.proofs.settings.settings_refusal.Statement as settings-refusal-statement
use Rattle.basics.proofs.settings.settings_refusal.Met as settings-refusal-met
use Rattle.basics.proofs.capture.size_refusal.Kinds as size-refusal-kinds
use Rattle.basics.proofs.capture.size_refusal.Reads as size-refusal
use Rattle.basics.proofs.capture.size_refusal.Statement as size-refusal-statement
use Rattle.basics.proofs.capture.size_refusal.Met as size-refusal-met
use Rattle.basics.proofs.refusal.Refusal.number.Kinds as number-kinds
use Rattle.basics.proofs.refusal.Refusal.number.Reads as number-fn
use Rattle.basics.proofs.refusal.Refusal.number.Statement as number-statement
use Rattle.basics.proofs.refusal.Refusal.number.Met as number-met
use Rattle.basics.proofs.refusal.number_or_0.Kinds as number-or-0-kinds
use Rattle.basics.proofs.refusal.number_or_0.Reads as number-or-0-fn
use Rattle.basics.proofs.refusal.number_or_0.Statement as number-or-0-statement
use Rattle.basics.proofs.refusal.number_or_0.Met as number-or-0-met

-- Each public function answers, and leaves in the memory that it was lent, what its definition says, for every input.
-- (`statement` is the contract, as the checker reads it off the source; it asks nothing of the caller.)
two_at_right : {M : Type 1} → two-at-statement.statement M
two_at_right = two-at-met.met

four_at_right : {M : Type 1} → four-at-statement.statement M
four_at_right = four-at-met.met

put_two_right : {M : Type 1} → put-two-statement.statement M
put_two_right = put-two-met.met

put_four_right : {M : Type 1} → put-four-statement.statement M
put_four_right = put-four-met.met

sections_fit_right : {M : Type 1} → sections-fit-statement.statement M
sections_fit_right = sections-fit-met.met

settings_refusal_right : {M : Type 1} → settings-refusal-statement.statement M
settings_refusal_right = settings-refusal-met.met

size_refusal_right : {M : Type 1} → size-refusal-statement.statement M
size_refusal_right = size-refusal-met.met

number_right : {M : Type 1} → number-statement.statement M
number_right = number-met.met

number_or_0_right : {M : Type 1} → number-or-0-statement.statement M
number_or_0_right = number-or-0-met.met

-- A number that was written where it has room is read back.
two_right : (bytes : List ℕ) (at v : ℕ) → at + 1 < length bytes → two_at (sets bytes at (two_bytes v)) at ≡ v
two_right = two_back

four_right : (bytes : List ℕ) (at v : ℕ) → at + 3 < length bytes → four_at (sets bytes at (four_bytes v)) at ≡ v
four_right = four_back

-- Numbers that were written by a layout, wherever, are read back by it; and bytes that were read by it, all of them below
-- 256, are written again as they stood.
fields_right : (layout : List Width) (values before after : List ℕ) → length values ≡ length layout
    → fields_at layout (before ++ (field_bytes layout values ++ after)) (length before) ≡ values
fields_right = fields_back

fields_complete : (bytes : List ℕ) → ((i : ℕ) → get_or bytes i 0 < 256)
    → (layout : List Width) (at : ℕ) → at + size_of layout ≤ length bytes
    → field_bytes layout (fields_at layout bytes at) ≡ take (size_of layout) (drop at bytes)
fields_complete = fields_again

-- Answers in an order: the answer of the check that is the first to apply is given; and what is given, if it is not the
-- other, is the answer of such a check. A kind of answer that the other has, and no check bears, is given exactly where no
-- check applies.
given_right : {A : Type 0} (none : A) (checks : List (CheckFor A)) (i : ℕ) → FirstAt checks i
    → first_or none checks ≡ answer_or none checks i
given_right = first_given

given_complete : {A : Type 0} (none : A) (checks : List (CheckFor A)) → (first_or none checks ≡ none → ⊥)
    → (i : ℕ) × FirstAt checks i × (first_or none checks ≡ answer_or none checks i)
given_complete = first_shown

none_right : {A : Type 0} (kind : A → Bool) (none : A) (checks : List (CheckFor A)) → kind none ≡ true
    → others kind checks ≡ true
    → (kind (first_or none checks) ≡ true) ↔ ((i : ℕ) → applies_at checks i ≡ false)
none_right = none_of

-- Of checks numbered 1, 2, 3, .., the number i + 1 is answered exactly where the check at place i is the first to
-- apply; and 0 exactly where none applies, if no check bears that number.
first_right : (checks : List Check) → CountedFrom 1 checks → (i : ℕ) → (first_of checks ≡ i + 1) ↔ FirstAt checks i
first_right = first_exact

first_complete : (checks : List Check) → numbered checks ≡ true
    → (first_of checks ≡ 0) ↔ ((i : ℕ) → applies_at checks i ≡ false)
first_complete = none_exact

-- A test that is computed once over a whole list holds at each entry, and a table that computes to the values of a
-- function has them at each entry.
test_right : {A : Type 0} (test : A → Bool) (list : List A) (other : A) → every test list ≡ true
    → (k : ℕ) → k < length list → test (get_or list k other) ≡ true
test_right = at_entry

table_right : (f : ℕ → ℕ) (n k : ℕ) → k < n → get_or (values f n) k 0 ≡ f k
table_right = entry_is

-- Settings are refused with nothing exactly if n and the mask fit, whatever the two numbers are that bad ones are refused
-- with, if neither is 0.
settings_right : (first second n mask : ℕ) → numbered (settings_checks first second n mask) ≡ true
    → first_of (settings_checks first second n mask) ≡ 0 → (sections_fit n ≡ true) × (mask_fits n mask ≡ true)
settings_right = settings_fit_lem

settings_complete : (first second n mask : ℕ) → sections_fit n ≡ true → mask_fits n mask ≡ true
    → first_of (settings_checks first second n mask) ≡ 0
settings_complete = fit_settings

-- And `settings_refusal` is right, whatever it is handed to refuse with, exactly if n and the mask fit.
checks_right : {E : Type 0} (first second : E) (n mask : ℕ) → first_error (settings_checks first second n mask) ≡ Ok tt
    → (sections_fit n ≡ true) × (mask_fits n mask ≡ true)
checks_right = error_none

checks_complete : {E : Type 0} (first second : E) (n mask : ℕ) → sections_fit n ≡ true → mask_fits n mask ≡ true
    → first_error (settings_checks first second n mask) ≡ Ok tt
checks_complete = none_error

-- With two refusals it answers the one whose number is that of the first check that applies.
checks_numbered : (first second : Refusal) (n mask : ℕ)
    → refusal_told (first_error (settings_checks first second n mask))
    ≡ first_of (settings_checks (refusal_number first) (refusal_number second) n mask)
checks_numbered = settings_told

-- A number names one refusal, and none has the number 0.
refusal_back : (e : Refusal) → refusal_with (refusal_number e) ≡ e
refusal_back = with_number

refusal_some : (e : Refusal) → refusal_number e ≡ 0 → ⊥
refusal_some = number_some

-- A capture's size is refused with nothing exactly if it is whole steps and at most 65,536 bytes.
size_right : (size : ℕ) → first_of (size_faults size) ≡ 0 → (size % 4 ≡ 0) × (size ≤ most)
size_right = size_fits

size_complete : (size : ℕ) → size % 4 ≡ 0 → size ≤ most → first_of (size_faults size) ≡ 0
size_complete = fit_size

-- Two answers that the promise of an enum allows are equal.
answer_unique : {A B : Type 0} {told : A → B} {case_of : B → A} {right : B} {x y : A}
    → Answers told case_of right x → Answers told case_of right y → x ≡ y
answer_unique = one_case

-- Two answers, or two contents of the lent bytes, that the promise of a public function allows are equal. (`Post` is the
-- function's `ensures`, as the checker reads it off the source.)
two_at_unique : OneAnswer 1 two-at-kinds.ps two-at-kinds.r two-at.Post
two_at_unique κs args x y s t p q = one_value p q

four_at_unique : OneAnswer 1 four-at-kinds.ps four-at-kinds.r four-at.Post
four_at_unique κs args x y s t p q = one_value p q

put_two_unique : OneContent 1 put-two-kinds.ps put-two-kinds.r put_two.Post (λ κs exit. exit.0.now)
put_two_unique κs args x y s t p q = one_value p q

put_four_unique : OneContent 1 put-four-kinds.ps put-four-kinds.r put_four.Post (λ κs exit. exit.0.now)
put_four_unique κs args x y s t p q = one_value p q

sections_fit_unique : OneAnswer 0 sections-fit-kinds.ps sections-fit-kinds.r sections-fit.Post
sections_fit_unique κs args x y s t p q = one_value p q

settings_refusal_unique : (E : RattleType) (laws : Laws E) (copied : IsCopy E) (clone : Ghosts E.Denot) (dict : Dict)
    → OneAnswer 1 (settings-refusal-kinds.ps E laws copied) (settings-refusal-kinds.r E laws copied)
    (settings-refusal.Post E laws copied clone dict)
settings_refusal_unique E laws copied clone dict κs args x y s t p q = one_value p q

number_unique : OneAnswer 0 number-kinds.ps number-kinds.r number-fn.Post
number_unique κs args x y s t p q = one_value p q

number_or_0_unique : (A : RattleType) (laws : Laws A)
    → OneAnswer 2 (number-or-0-kinds.ps A laws) (number-or-0-kinds.r A laws) (number-or-0-fn.Post A laws)
number_or_0_unique A laws κs args x y s t p q = one_value p q

size_refusal_unique : OneAnswer 0 size-refusal-kinds.ps size-refusal-kinds.r size-refusal.Post
size_refusal_unique κs args x y s t p q = told_one x y (one_value p q)
