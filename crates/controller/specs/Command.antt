-- The number of a command, 0 where none is given (01, 'One step'), and the channel that it comes with, 0 where it is for no
-- section.
use Rattle.std.specs.Prelude.{if◌then◌else◌, Option, Some, None, ℕ, eqb}
use Rattle.controller.specs.declared.command.Command.{Command}
use Rattle.controller.specs.declared.command.Command.TheVariants as command

abbrev pub command_number : Option Command → ℕ
command_number None = 0
command_number (Some command.Clear) = 1
command_number (Some command.Lockout) = 2
command_number (Some (command.Forced c)) = 3
command_number (Some (command.Manual c)) = 4

abbrev pub command_channel : Option Command → ℕ
command_channel None = 0
command_channel (Some command.Clear) = 0
command_channel (Some command.Lockout) = 0
command_channel (Some (command.Forced c)) = c
command_channel (Some (command.Manual c)) = c

-- the command that has a number and a channel; of other numbers none is asked
abbrev pub command_with : ℕ → ℕ → Option Command
command_with number c =
    if eqb number 0 then None else
    if eqb number 1 then Some command.Clear else
    if eqb number 2 then Some command.Lockout else
    if eqb number 3 then Some (command.Forced c) else
    Some (command.Manual c)
