-- What becomes of a command (01, 'One step', rules 2 and 5). A command has a rank above 0; 0 is the rank of none.
use Rattle.std.specs.Prelude.{if◌then◌else◌, Bool, ◌&&◌, ◌||◌, ℕ, ltb, eqb}
use Rattle.request.specs.declared.command.Fate.{Fate}
use Rattle.request.specs.declared.command.Fate.TheVariants.{NoCommand, Taken, Denied}

-- where none is held any command comes in; a held one gives way to a higher rank alone
abbrev pub replaces : ℕ → ℕ → Bool
replaces held given = eqb held 0 || ltb held given

-- 0 for no command, 1 for one that was taken, 2 for one that was denied. Clear is never denied; a new command has to get
-- past the held one and onto the line
abbrev pub fate : ℕ → Bool → Bool → ℕ
fate command replaced sent =
    if eqb command 0 then 0
    else if eqb command 1 then 1
    else if replaced && sent then 1
    else 2

-- the number of a fate, and the fate that a number is of
abbrev pub fate_number : Fate → ℕ
fate_number NoCommand = 0
fate_number Taken = 1
fate_number Denied = 2

abbrev pub fate_with : ℕ → Fate
fate_with number = if eqb number 0 then NoCommand else if eqb number 1 then Taken else Denied
