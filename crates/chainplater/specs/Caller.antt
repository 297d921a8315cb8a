-- What C is told of an answer: the number of its refusal is `refusal_told`, its bytes are these. And what the options byte says.
use Rattle.std.specs.Prelude.{if◌then◌else◌, Result, Ok, Err, List, ℕ, replicate}
use Rattle.basics.specs.Settings.{options_fit, hold_of}
use Rattle.basics.specs.declared.refusal.Refusal.{Refusal}
use Rattle.basics.specs.declared.refusal.Refusal.TheVariants.{Options}
use Rattle.basics.specs.declared.settings.Settings.{Settings}

-- the bytes of an answer, and as many zeros where it is refused
abbrev pub bytes_told : ℕ → Result (List ℕ) Refusal → List ℕ
bytes_told size (Ok bytes) = bytes
bytes_told size (Err e) = replicate size 0

-- the settings that the options go with; above 1 there are none, which is refusal 25
abbrev pub settings_for : ℕ → ℕ → ℕ → ℕ → Result Settings Refusal
settings_for n options mask w =
    if options_fit options then Ok (record { n = n; hold = hold_of options; mask = mask; w = w }) else Err Options
