-- Settings, and the fresh record (01, 'Settings' and 'One step'; 02, g).
use Rattle.std.specs.Prelude.{if◌then◌else◌, Bool, true, false, Result, Ok, Err, List, ℕ, ◌-◌, ◌/◌, ◌%◌, ◌^◌, eqb}
use Rattle.basics.specs.First.{Check, first_of}
use Rattle.basics.specs.Refusal.{refusal_number, refused_or}
use Rattle.basics.specs.Settings.{settings_checks}
use Rattle.basics.specs.declared.refusal.Refusal.{Refusal}
use Rattle.controller.specs.declared.Controller.{Controller}

-- section c is of high priority by bit c-1 of the mask, section 0 by itself
abbrev pub high : ℕ → ℕ → Bool
high mask c = if eqb c 0 then true else eqb (mask / 2 ^ (c - 1) % 2) 1

-- the idle pair, which a fresh record has accepted; its K1 is the one last sent
abbrev pub idle_k1 : ℕ
idle_k1 = 0x00

abbrev pub idle_k2 : ℕ
idle_k2 = 0x08

-- the held command is kept as a K1; 00 stands for none
abbrev pub none_held : ℕ
none_held = 0x00

abbrev pub fresh : ℕ → Bool → ℕ → ℕ → Controller
fresh n hold mask w =
    record {
      n = n;
      hold = hold;
      mask = mask;
      w = w;
      k1 = idle_k1;
      k2 = idle_k2;
      sent = idle_k1;
      left = 0;
      held = none_held;
    }

-- refusals 1 and 2
abbrev pub settings_faults : ℕ → ℕ → List Check
settings_faults n mask = settings_checks 1 2 n mask

-- what making a fresh record answers: a refusal with zeros, or the record
pub record Making : Type 0 where
  pub refusal : ℕ
  pub controller : Controller

abbrev pub zeros : Controller
zeros = record { n = 0; hold = false; mask = 0; w = 0; k1 = 0; k2 = 0; sent = 0; left = 0; held = 0 }

abbrev pub making_told : Result Controller Refusal → Making
making_told (Ok s) = record { refusal = 0; controller = s }
making_told (Err e) = record { refusal = refusal_number e; controller = zeros }

abbrev pub making_case : Making → Result Controller Refusal
making_case m = refused_or m.refusal m.controller

unfoldable pub making : ℕ → Bool → ℕ → ℕ → Making
making n hold mask w =
    if eqb (first_of (settings_faults n mask)) 0 then record { refusal = 0; controller = fresh n hold mask w }
    else record { refusal = first_of (settings_faults n mask); controller = zeros }
