-- A controller's record in bytes, fresh or as a step answers it, and the bytes of that answer (02, g).
use Rattle.std.specs.Prelude.{if◌then◌else◌, true, List, [], ◌∷◌, ◌++◌, ℕ, get_or}
use Rattle.basics.specs.Fields.{Width, one, two, fields_at, field_bytes}
use Rattle.basics.specs.First.{Check, ◌when◌, first_of}
use Rattle.basics.specs.Settings.{options_fit, hold_of}
use Rattle.controller.specs.Settings.{settings_faults, Making, zeros, making}
use Rattle.controller.specs.Step.{step}
use Rattle.controller.specs.declared.Controller.{Controller}
use Rattle.controller.specs.Step.{Stepped}
use Rattle.chainplater.specs.Coder.{flag}

-- the fields of a record, and the bytes of each: n (1), options (1), mask (2), W (2), accepted K1 (1), K2 (1), K1 last sent (1),
-- steps of wait left (2), held command as a K1 (1)
abbrev pub layout : List Width
layout = one ∷ one ∷ two ∷ two ∷ one ∷ one ∷ one ∷ two ∷ one ∷ []

abbrev pub fields : Controller → List ℕ
fields s =
    s.n ∷ flag s.hold ∷ s.mask ∷ s.w ∷ s.k1 ∷ s.k2 ∷ s.sent ∷ s.left ∷ s.held ∷ []

abbrev pub named : List ℕ → Controller
named values =
    record {
      n = get_or values 0 0;
      hold = hold_of (get_or values 1 0);
      mask = get_or values 2 0;
      w = get_or values 3 0;
      k1 = get_or values 4 0;
      k2 = get_or values 5 0;
      sent = get_or values 6 0;
      left = get_or values 7 0;
      held = get_or values 8 0;
    }

unfoldable pub record_in : List ℕ → Controller
record_in bytes = named (fields_at layout bytes 0)

unfoldable pub record_bytes : Controller → List ℕ
record_bytes s = field_bytes layout (fields s)

-- options above 1 are refusal 25, before 1 and 2
unfoldable pub fresh_for : ℕ → ℕ → ℕ → ℕ → Making
fresh_for n options mask w =
    if options_fit options then making n (hold_of options) mask w
    else record { refusal = 25; controller = zeros }

-- refusal, record, K1, K2, bridge, selector, mark, fate
unfoldable pub outcome_bytes : Stepped → List ℕ
outcome_bytes o =
    o.refusal
    ∷ record_bytes o.controller
    ++ (o.k1 ∷ o.k2 ∷ o.bridge ∷ o.selector ∷ o.mark ∷ o.fate ∷ [])

-- a record in bytes that is none, since its options are above 1, is not acceptable: refusal 3, in its place behind 1 and 2
abbrev pub options_faults : Controller → List Check
options_faults s = settings_faults s.n s.mask ++ ((3 when true) ∷ [])

-- and comes back as it was given, with zeros behind it
abbrev pub refused_bytes : ℕ → List ℕ → List ℕ
refused_bytes number given = number ∷ given ++ (0 ∷ 0 ∷ 0 ∷ 0 ∷ 0 ∷ 0 ∷ [])

-- what a step answers to a record in bytes
unfoldable pub step_bytes : List ℕ → ℕ → ℕ → List ℕ → ℕ → ℕ → List ℕ
step_bytes given k1 k2 conditions command c =
    if options_fit (get_or given 1 0) then outcome_bytes (step (record_in given) k1 k2 conditions command c)
    else refused_bytes (first_of (options_faults (record_in given))) given
