-- First come stays: laws of the turn among local conditions of equal rank, and of the order that goes by it.
use mathlib.Core.Path.{◌≡◌, refl, sym, ap, ◌∙◌}
use mathlib.Core.Bool.{Bool, true, false, and-eq-true_iff}
use mathlib.Core.Logic.{◌⊎◌, inl, inr}
use Prim.Native.Nat.{ℕ, ◌+◌, ◌<◌}
use native.Mathlib.Omega.{arith}
use lib.Dec.{eqb}
use borrow.Author.Tests.{eqb-true, eqb-false, eq-eqb, ne_eqb}
use Rattle.request.specs.Order.{same, turn, by_turn, Orders}
use Rattle.request.specs.declared.Request.{Request}
use Rattle.request.proofs.Order.{by_number}

-- requests of the same code and channel are one
pub same_one : (a b : Request) → same a b ≡ true → a ≡ b
same_one a b h =
    let both = (and-eq-true_iff (eqb a.code b.code) (eqb a.channel b.channel)).0 h in
    let code : a.code ≡ b.code = eqb-true a.code b.code both.0 in
    let channel : a.channel ≡ b.channel = eqb-true a.channel b.channel both.1 in
    λ i. record { code = code i; channel = channel i }

module _ (last : Request) where
  pub turn_zero : (x : Request) → eqb x.channel 0 ≡ true → turn last x ≡ 0
  turn_zero x zero = rw zero

  pub turn_stays : (x : Request) → eqb x.channel 0 ≡ false → same x last ≡ true → turn last x ≡ 1
  turn_stays x some sent = rw (some, sent)

  pub turn_other : (x : Request) → eqb x.channel 0 ≡ false → same x last ≡ false → turn last x ≡ x.channel + 1
  turn_other x some other = rw (some, other)

  -- whose turn it can be: section 0's, the last sent one's, another section's
  abbrev pub Turns : Request → Type 0
  Turns x =
      ((turn last x ≡ 0) × (x.channel ≡ 0))
      ⊎ ((turn last x ≡ 1) × (x ≡ last) × (0 < x.channel))
      ⊎ ((turn last x ≡ x.channel + 1) × (0 < x.channel))

  pub turn_cases : (x : Request) → Turns x
  turn_cases x = go (eqb x.channel 0) (same x last) refl refl
    where
      go : (zero stays : Bool) → eqb x.channel 0 ≡ zero → same x last ≡ stays → Turns x
      go true stays e f = inl (turn_zero x e, eqb-true x.channel 0 e)
      go false true e f =
          let some = eqb-false x.channel 0 e in
          inr (inl (turn_stays x e f, same_one x last f, omega arith))
      go false false e f = let some = eqb-false x.channel 0 e in inr (inr (turn_other x e f, omega arith))

  -- no two channels share a turn
  pub turn_own : (x y : Request) → turn last x ≡ turn last y → x.channel ≡ y.channel
  turn_own x y h = go (turn_cases x) (turn_cases y)
    where
      go : Turns x → Turns y → x.channel ≡ y.channel
      go (inl (t, c)) (inl (u, d)) = omega arith
      go (inl (t, c)) (inr (inl (u, is, d))) = absurd (omega arith)
      go (inl (t, c)) (inr (inr (u, d))) = absurd (omega arith)
      go (inr (inl (t, is, c))) (inl (u, d)) = absurd (omega arith)
      go (inr (inl (t, is, c))) (inr (inl (u, also, d))) = ap (λ (r : Request). r.channel) (is ∙ sym also)
      go (inr (inl (t, is, c))) (inr (inr (u, d))) = absurd (omega arith)
      go (inr (inr (t, c))) (inl (u, d)) = absurd (omega arith)
      go (inr (inr (t, c))) (inr (inl (u, is, d))) = absurd (omega arith)
      go (inr (inr (t, c))) (inr (inr (u, d))) = omega arith

-- what was last sent, for a section, has the turn behind section 0
pub turn_again : (x : Request) → (x.channel ≡ 0 → ⊥) → turn x x ≡ 1
turn_again x section =
    turn_stays x x (ne_eqb x.channel 0 section)
    (rw (eq-eqb x.code x.code refl, eq-eqb x.channel x.channel refl))

-- by rank and turn is an order of which the laws of 'best' hold, whatever was last sent
pub turn_orders : (rank_of : ℕ → ℕ → ℕ) (last : Request)
    → Orders (λ (x : Request). rank_of x.code x.channel) (by_turn rank_of last)
turn_orders rank_of last = by_number (λ (x : Request). rank_of x.code x.channel) (turn last) (turn_own last)
