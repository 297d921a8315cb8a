-- The steps of wait (01, 'One step', rule 3).
use Rattle.std.specs.Prelude.{if◌then◌else◌, Bool, ℕ, ◌-◌}

-- W in the step after a fail or degrade, one less in each step after that; a clear ends it
abbrev pub wait_now : Bool → Bool → Bool → ℕ → ℕ → ℕ
wait_now clear entering waiting w left =
    if clear then 0
    else if entering then w
    else if waiting then left - 1
    else 0
