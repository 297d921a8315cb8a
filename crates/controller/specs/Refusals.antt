-- Refusals 1 to 7 of a step (01, 'Numbered refusals'; 02, g).
use Rattle.std.specs.Prelude.{if◌then◌else◌, Bool, true, not, ◌&&◌, ◌||◌, List, [], ◌∷◌, ◌++◌, ℕ, ◌+◌, ltb, leb, eqb, length}
use Rattle.basics.specs.First.{Check, ◌when◌, first_of}
use Rattle.pair.specs.Request.{fail_high_code, fail_low_code, degrade_high_code, degrade_low_code, requests, carries}
use Rattle.pair.specs.Marks.{code_of, channel_of, usable}
use Rattle.controller.specs.Settings.{high, none_held, settings_faults}
use Rattle.controller.specs.Rules.{is_command, is_wait}
use Rattle.controller.specs.declared.Controller.{Controller}

-- a fail or degrade code of the other priority
abbrev pub other_priority : Bool → ℕ → Bool
other_priority is_high code =
    if is_high then eqb code fail_low_code || eqb code degrade_low_code
    else eqb code fail_high_code || eqb code degrade_high_code

-- the code of a section, 1 or more, that the mask codes otherwise
abbrev pub against_mask : ℕ → ℕ → ℕ → Bool
against_mask mask code c = leb 1 c && other_priority (high mask c) code

-- WTR leaves 1 to W steps of wait, any other request none
abbrev pub wait_fits : ℕ → ℕ → ℕ → Bool
wait_fits code w left = if is_wait code then leb 1 left && leb left w else eqb left 0

-- held is none or, with hold alone, a command of the table for n: LO 0, FS 1..n or MS 1..n
abbrev pub held_fits : ℕ → Bool → ℕ → Bool
held_fits n hold held =
    eqb held none_held
    || hold && is_command (code_of held) && carries requests n (code_of held) (channel_of held)

-- the accepted pair is usable, the K1 last sent is in the table for n and coded by the mask, the wait fits it, and the held
-- command fits the settings
unfoldable pub acceptable : Controller → Bool
acceptable s =
    usable s.n s.k1 s.k2
    && carries requests s.n (code_of s.sent) (channel_of s.sent)
    && not (against_mask s.mask (code_of s.sent) (channel_of s.sent))
    && wait_fits (code_of s.sent) s.w s.left
    && held_fits s.n s.hold s.held

-- no condition is above 2
unfoldable pub conditions_fit : List ℕ → Bool
conditions_fit [] = true
conditions_fit (x ∷ rest) = leb x 2 && conditions_fit rest

-- none, clear and LO come with channel 0, FS and MS with a section's
abbrev pub channel_fits : ℕ → ℕ → ℕ → Bool
channel_fits n command c = if leb command 2 then eqb c 0 else leb 1 c && leb c n

abbrev pub command_faults : ℕ → ℕ → ℕ → List Check
command_faults n command c = (6 when ltb 4 command) ∷ (7 when not (channel_fits n command c)) ∷ []

-- in the paper's order
abbrev pub step_faults : Controller → List ℕ → ℕ → ℕ → List Check
step_faults s conditions command c =
    settings_faults s.n s.mask
    ++ ((3 when not (acceptable s))
    ∷ (4 when not (eqb (length conditions) (s.n + 1)))
    ∷ (5 when not (conditions_fit conditions))
    ∷ command_faults s.n command c)

unfoldable pub refusal : Controller → List ℕ → ℕ → ℕ → ℕ
refusal s conditions command c = first_of (step_faults s conditions command c)
