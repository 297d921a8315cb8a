-- The number of a fate decides it.
use mathlib.Core.Path.{◌≡◌, refl, sym, ap, ◌∙◌}
use Prim.Native.Nat.{ℕ}
use Rattle.request.specs.Command.{fate_number, fate_with}
use Rattle.request.specs.declared.command.Fate.{Fate}
use Rattle.request.specs.declared.command.Fate.TheVariants.{NoCommand, Taken, Denied}

pub fate_back : (f : Fate) → fate_with (fate_number f) ≡ f
fate_back NoCommand = refl
fate_back Taken = refl
fate_back Denied = refl

pub one_fate : {x y : Fate} {number : ℕ} → fate_number x ≡ number → fate_number y ≡ number → x ≡ y
one_fate {x = x} {y = y} p q = sym (fate_back x) ∙ ap fate_with (p ∙ sym q) ∙ fate_back y
