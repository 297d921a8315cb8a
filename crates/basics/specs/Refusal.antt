-- The numbered refusals: the number that the papers give each (01, 'Numbered refusals'; 02), and that of an answer, 0 where
-- it is no refusal.
use Rattle.std.specs.Prelude.{if◌then◌else◌, Result, Ok, Err, [], ◌∷◌, ℕ, eqb}
use Rattle.basics.specs.First.{◌when◌, first_or}
use Rattle.basics.specs.declared.refusal.Refusal.{Refusal}
use Rattle.basics.specs.declared.refusal.Refusal.TheVariants.{Sections, Mask, Record, ConditionCount, Condition, Command, CommandChannel, CaptureBytes, CaptureLength, NotDecoded, CausesRoom, SwitchesRoom, StepAbsent, SwitchesOther, BookLength, BookShort, BookVersion, BookCount, ContentsCut, Options, Offset, BodyCut, BytesLeft, OutputShort, BodiesLength, EntrySections, EntryMask}

abbrev pub refusal_number : Refusal → ℕ
refusal_number Sections = 1
refusal_number Mask = 2
refusal_number Record = 3
refusal_number ConditionCount = 4
refusal_number Condition = 5
refusal_number Command = 6
refusal_number CommandChannel = 7
refusal_number CaptureBytes = 8
refusal_number CaptureLength = 9
refusal_number NotDecoded = 10
refusal_number CausesRoom = 11
refusal_number SwitchesRoom = 12
refusal_number StepAbsent = 13
refusal_number SwitchesOther = 16
refusal_number BookLength = 20
refusal_number BookShort = 21
refusal_number BookVersion = 22
refusal_number BookCount = 23
refusal_number ContentsCut = 24
refusal_number Options = 25
refusal_number Offset = 26
refusal_number BodyCut = 27
refusal_number BytesLeft = 28
refusal_number OutputShort = 29
refusal_number BodiesLength = 30
refusal_number EntrySections = 31
refusal_number EntryMask = 32

-- the refusal that has a number; of other numbers none is asked
abbrev pub refusal_with : ℕ → Refusal
refusal_with k =
    first_or EntryMask (
    (Sections when eqb k 1) ∷
    (Mask when eqb k 2) ∷
    (Record when eqb k 3) ∷
    (ConditionCount when eqb k 4) ∷
    (Condition when eqb k 5) ∷
    (Command when eqb k 6) ∷
    (CommandChannel when eqb k 7) ∷
    (CaptureBytes when eqb k 8) ∷
    (CaptureLength when eqb k 9) ∷
    (NotDecoded when eqb k 10) ∷
    (CausesRoom when eqb k 11) ∷
    (SwitchesRoom when eqb k 12) ∷
    (StepAbsent when eqb k 13) ∷
    (SwitchesOther when eqb k 16) ∷
    (BookLength when eqb k 20) ∷
    (BookShort when eqb k 21) ∷
    (BookVersion when eqb k 22) ∷
    (BookCount when eqb k 23) ∷
    (ContentsCut when eqb k 24) ∷
    (Options when eqb k 25) ∷
    (Offset when eqb k 26) ∷
    (BodyCut when eqb k 27) ∷
    (BytesLeft when eqb k 28) ∷
    (OutputShort when eqb k 29) ∷
    (BodiesLength when eqb k 30) ∷
    (EntrySections when eqb k 31) ∷
    (EntryMask when eqb k 32) ∷ []
    )

-- the number of an answer's refusal, or 0
abbrev pub refusal_told : {A : Type 0} → Result A Refusal → ℕ
refusal_told (Ok a) = 0
refusal_told (Err e) = refusal_number e

-- an answer to a number: the refusal that has it, or, to 0, what is answered then
abbrev pub refused_or : {A : Type 0} → ℕ → A → Result A Refusal
refused_or k a = if eqb k 0 then Ok a else Err (refusal_with k)
