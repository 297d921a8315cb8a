-- Laws of the numbered refusals: a number names one refusal, and none has the number 0.
use Rattle.std.proofs.Common.{◌≡◌, refl, sym, ap, ◌∙◌, ◌≢◌, arith, ℕ, Result, Ok, Err, Bool, true, false, not, [], ◌∷◌}
use Rattle.basics.specs.First.{◌when◌, first_error, first_of}
use Rattle.basics.specs.Settings.{sections_fit, mask_fits, settings_checks}
use Rattle.basics.specs.Refusal.{refusal_number, refusal_with, refusal_told}
use Rattle.basics.specs.declared.refusal.Refusal.{Refusal}
use Rattle.basics.specs.declared.refusal.Refusal.TheVariants.{Sections, Mask, Record, ConditionCount, Condition, Command, CommandChannel, CaptureBytes, CaptureLength, NotDecoded, CausesRoom, SwitchesRoom, StepAbsent, SwitchesOther, BookLength, BookShort, BookVersion, BookCount, ContentsCut, Options, Offset, BodyCut, BytesLeft, OutputShort, BodiesLength, EntrySections, EntryMask}

pub with_number : (e : Refusal) → refusal_with (refusal_number e) ≡ e
with_number Sections = refl
with_number Mask = refl
with_number Record = refl
with_number ConditionCount = refl
with_number Condition = refl
with_number Command = refl
with_number CommandChannel = refl
with_number CaptureBytes = refl
with_number CaptureLength = refl
with_number NotDecoded = refl
with_number CausesRoom = refl
with_number SwitchesRoom = refl
with_number StepAbsent = refl
with_number SwitchesOther = refl
with_number BookLength = refl
with_number BookShort = refl
with_number BookVersion = refl
with_number BookCount = refl
with_number ContentsCut = refl
with_number Options = refl
with_number Offset = refl
with_number BodyCut = refl
with_number BytesLeft = refl
with_number OutputShort = refl
with_number BodiesLength = refl
with_number EntrySections = refl
with_number EntryMask = refl

-- the refusal whose number is known
pub with_known : (e : Refusal) (k : ℕ) → refusal_number e ≡ k → refusal_with k ≡ e
with_known e k is = ap refusal_with (sym is) ∙ with_number e

pub number_some : (e : Refusal) → refusal_number e ≢ 0
number_some Sections = λ e. omega arith
number_some Mask = λ e. omega arith
number_some Record = λ e. omega arith
number_some ConditionCount = λ e. omega arith
number_some Condition = λ e. omega arith
number_some Command = λ e. omega arith
number_some CommandChannel = λ e. omega arith
number_some CaptureBytes = λ e. omega arith
number_some CaptureLength = λ e. omega arith
number_some NotDecoded = λ e. omega arith
number_some CausesRoom = λ e. omega arith
number_some SwitchesRoom = λ e. omega arith
number_some StepAbsent = λ e. omega arith
number_some SwitchesOther = λ e. omega arith
number_some BookLength = λ e. omega arith
number_some BookShort = λ e. omega arith
number_some BookVersion = λ e. omega arith
number_some BookCount = λ e. omega arith
number_some ContentsCut = λ e. omega arith
number_some Options = λ e. omega arith
number_some Offset = λ e. omega arith
number_some BodyCut = λ e. omega arith
number_some BytesLeft = λ e. omega arith
number_some OutputShort = λ e. omega arith
number_some BodiesLength = λ e. omega arith
number_some EntrySections = λ e. omega arith
number_some EntryMask = λ e. omega arith

-- answers without a value, of which the numbers are equal, are equal
pub told_one : (x y : Result (Unit {0}) Refusal) → refusal_told x ≡ refusal_told y → x ≡ y
told_one (Ok a) (Ok b) is = refl
told_one (Ok a) (Err e) is = absurd (number_some e (sym is))
told_one (Err e) (Ok b) is = absurd (number_some e is)
told_one (Err e) (Err f) is = ap Err (sym (with_known e (refusal_number f) is) ∙ with_number f)

-- n and the mask, refused with the two refusals or with their numbers
pub settings_told : (first second : Refusal) (n mask : ℕ)
    → refusal_told (first_error (settings_checks first second n mask))
    ≡ first_of (settings_checks (refusal_number first) (refusal_number second) n mask)
settings_told first second n mask = cases (not (sections_fit n)) (not (mask_fits n mask))
  where
    cases : (t u : Bool)
        → refusal_told (first_error ((first when t) ∷ (second when u) ∷ []))
        ≡ first_of ((refusal_number first when t) ∷ (refusal_number second when u) ∷ [])
    cases true u = refl
    cases false true = refl
    cases false false = refl

-- nothing is refused exactly if both fit
module _ {E : Type 0} (first second : E) (n mask : ℕ) where
  pub error_none : first_error (settings_checks first second n mask) ≡ Ok tt
      → (sections_fit n ≡ true) × (mask_fits n mask ≡ true)
  error_none e = cases (sections_fit n) (mask_fits n mask) e
    where
      cases : (t u : Bool) → first_error ((first when not t) ∷ (second when not u) ∷ []) ≡ Ok tt → (t ≡ true) × (u ≡ true)
      cases true true e = (refl, refl)
      cases true false e = absurd cc
      cases false u e = absurd cc

  pub none_error : sections_fit n ≡ true → mask_fits n mask ≡ true
      → first_error (settings_checks first second n mask) ≡ Ok tt
  none_error fits small = rw (fits, small)
