-- Laws of the marks' numbers: a number names one mark, and none has the number 0.
use mathlib.Core.Path.{◌≡◌, refl, sym, ap, ◌∙◌}
use native.Mathlib.Omega.{arith}
use Rattle.std.specs.Prelude.{Option, Some, None}
use Rattle.pair.specs.Marks.{mark_number, mark_told, mark_case}
use Rattle.pair.specs.Table.{Value, value_told}
use Rattle.pair.specs.declared.Value as value
use Rattle.pair.specs.declared.mark.Mark.{Mark}
use Rattle.pair.specs.declared.mark.Mark.TheVariants as fault

pub mark_some : (m : Mark) → mark_number m ≡ 0 → ⊥
mark_some fault.Architecture e = omega arith
mark_some fault.LineBits e = omega arith
mark_some fault.Code e = omega arith
mark_some fault.Channel e = omega arith
mark_some fault.Bridged e = omega arith

-- a mark or none
pub told_back : (m : Option Mark) → mark_case (mark_told m) ≡ m
told_back None = refl
told_back (Some fault.Architecture) = refl
told_back (Some fault.LineBits) = refl
told_back (Some fault.Code) = refl
told_back (Some fault.Channel) = refl
told_back (Some fault.Bridged) = refl

pub told_one : {x y : Option Mark} → mark_told x ≡ mark_told y → x ≡ y
told_one {x = x} {y = y} same = sym (told_back x) ∙ ap mark_case same ∙ told_back y

-- what is held of a K1 is decided by its numbers
pub value_one : {x y : value.Value} → value_told x ≡ value_told y → x ≡ y
value_one same =
    let mark = told_one (ap (λ (v : Value). v.mark) same) in
    λ i. record { rank = (same i).rank; least = (same i).least; greatest = (same i).greatest; mark = mark i }
