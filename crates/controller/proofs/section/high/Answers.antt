-- Shifted by c, the bit below the mask's is that of section 0, and the mask's are c - 1 places on.
use Rattle.std.proofs.Common.{rules, arith, ◌≡◌, sym, ap, ◌∙◌, ℕ, zero, suc, ◌+◌, ◌*◌, ◌-◌, ◌/◌, ◌%◌, ◌^◌, ◌<◌, ◌≤◌, eqb, lit<}
use native.Mathlib.Nat.{div-eq_of_lt, div-div-eq-div-mul, div-one, pow-le-pow_right, pow-succ'}
use borrow.Author.Tests.{ne_eqb, lt-leb}
use Rattle.controller.specs.Settings.{high}
use Rattle.controller.proofs.section.high.Goals as goal

bit_above : (mask c : ℕ) → eqb ((2 * mask + 1) / 2 ^ c % 2) 1 ≡ high mask c
bit_above mask zero =
    let odd : (2 * mask + 1) % 2 ≡ 1 = omega arith in
    rw (div-one (2 * mask + 1), odd)
bit_above mask (suc k) =
    let half : (2 * mask + 1) / 2 ≡ mask = omega arith in
    let down : (2 * mask + 1) / 2 ^ suc k ≡ mask / 2 ^ k =
    ap (λ (d : ℕ). (2 * mask + 1) / d) (pow-succ' 2 k)
    ∙ sym (div-div-eq-div-mul (2 * mask + 1) 2 (2 ^ k))
    ∙ ap (λ (m : ℕ). m / 2 ^ k) half in
    let before : suc k - 1 ≡ k = omega arith in
    rw (down, ne_eqb (suc k) 0 (omega arith), before)

pub returns-then-c-le16 : goal.returns-then-c-le16
returns-then-c-le16 c = rw c.from.ensures (bit_above c.args.mask c.args.c)

-- a mask of 16 bits has none at 16 or above
pub returns-else-c-le16 : goal.returns-else-c-le16
returns-else-c-le16 c =
    let a = c.args in
    let past = c.if-c-le16.false in
    let above : 16 ≤ a.c - 1 = omega arith in
    let least : 2 ^ 16 ≤ 2 ^ (a.c - 1) = pow-le-pow_right (lit< tt) above in
    let below : a.mask < 2 ^ 16 = search rules in
    let none : a.mask / 2 ^ (a.c - 1) ≡ 0 = div-eq_of_lt (omega arith) in
    rw (lt-leb a.c 16 past, none, ne_eqb a.c 0 (omega arith))
