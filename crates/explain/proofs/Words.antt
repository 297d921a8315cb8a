-- A word of conditions: it is what the shift makes of it, and has no bit at the places of the marks.
use mathlib.Core.Path.{◌≡◌, refl, ap, ◌∙◌}
use mathlib.Core.Bool.{Bool, true, false}
use Prim.Native.Nat.{ℕ, zero, suc, ◌*◌, ◌%◌, ◌^◌, ◌≤◌, ◌<◌}
use native.Mathlib.Nat.{mod-eq_of_lt, mul-le-mul, pow-le-pow_right}
use native.Mathlib.Omega.{arith}
use lib.Dec.{eqb, lit≤, lit<}
use Rattle.request.specs.declared.Request.{Request}
use Rattle.controller.specs.Rules.{condition}
use Rattle.explain.specs.Cause.{bad_for}
use Rattle.explain.specs.Filling.{heard_place}

pub bad_few : (mask : ℕ) (x : Request) → bad_for mask x ≤ 2
bad_few mask x =
    go (eqb x.code (condition mask x.channel 1).code) (eqb x.code (condition mask x.channel 2).code) refl refl
  where
    go : (t u : Bool) → eqb x.code (condition mask x.channel 1).code ≡ t
        → eqb x.code (condition mask x.channel 2).code ≡ u → bad_for mask x ≤ 2
    go true u e f = rw e (lit≤ tt)
    go false true e f = rw (e, f) (lit≤ tt)
    go false false e f = rw (e, f) (lit≤ tt)

two_bits : (c : ℕ) → 2 ^ (2 * c) ≡ 4 ^ c
two_bits zero = refl
two_bits (suc c) =
    let before = two_bits c in
    let twice : 2 * suc c ≡ suc (suc (2 * c)) = omega arith in
    ap (λ (k : ℕ). 2 ^ k) twice ∙ omega arith

module _ (mask : ℕ) (x : Request) (within : x.channel ≤ 14) where
  pub word_below : bad_for mask x * 4 ^ x.channel < heard_place
  word_below =
      let most : 4 ^ x.channel ≤ 4 ^ 14 = pow-le-pow_right (lit< tt) within in
      let h = mul-le-mul (bad_few mask x) most in
      omega arith

  pub shifted : bad_for mask x * 2 ^ (2 * x.channel) % 0x100000000 ≡ bad_for mask x * 4 ^ x.channel
  shifted =
      ap (λ (p : ℕ). bad_for mask x * p % 0x100000000) (two_bits x.channel)
      ∙ mod-eq_of_lt (let h = word_below in omega arith)
