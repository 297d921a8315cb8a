-- The records of a controller with hold and of one without it, beside each other (02, g).
use Rattle.std.specs.Prelude.{if◌then◌else◌, ◌≡◌, Bool, true, false, ℕ}
use Rattle.pair.specs.Marks.{code_of}
use Rattle.controller.specs.Settings.{none_held}
use Rattle.controller.specs.Rules.{asked, k1_of, is_command, held}
use Rattle.controller.specs.declared.Controller.{Controller}

-- the record with this setting and this command held, and otherwise as it is
abbrev pub recast : Bool → ℕ → Controller → Controller
recast hold held s =
    record {
      n = s.n;
      hold = hold;
      mask = s.mask;
      w = s.w;
      k1 = s.k1;
      k2 = s.k2;
      sent = s.sent;
      left = s.left;
      held = held;
    }

-- the one with hold that holds just what was last sent, if that is a command
abbrev pub remembering : Controller → Controller
remembering s = recast true (k1_of (held (asked s.sent))) s

-- the one without hold, with nothing held
abbrev pub forgetting : Controller → Controller
forgetting t = recast false none_held t

-- by the setting
abbrev pub with_hold : Bool → Controller → Controller
with_hold hold s = if hold then remembering s else s

-- a record with hold in which a command that was last sent is the held one; behind any other request anything may be held
abbrev pub HoldsSent : Controller → Type 0
HoldsSent t = is_command (code_of t.sent) ≡ true → t.held ≡ t.sent
