-- Ranks and channels of requests by their codes, as the table has them; a command of the table has a rank.
use mathlib.Core.Path.{◌≡◌, refl, sym, ap, ◌∙◌}
use mathlib.Core.Bool.{Bool, true, false, and-eq-true_iff, false≢true}
use mathlib.Core.Logic.{◌⊎◌, inl, inr}
use Prim.Native.Nat.{ℕ, ◌≤◌}
use native.Mathlib.Omega.{arith}
use lib.Dec.{leb, eqb, lit≤}
use borrow.Author.Tests.{eqb-true, eqb-false, ne_eqb}
use Rattle.pair.specs.Request.{requests, carries, channel_0, a_section, rank_in, rank_of}
use Rattle.pair.proofs.Rows.{held_in, carries_0, carries_section}
use Rattle.request.specs.declared.Request.{Request}
use Rattle.controller.specs.Rules.{rank_of_request, is_command}
use Rattle.controller.proofs.Apart.{command_cases}

-- the rank on a section
pub section_rank : (code c : ℕ) → 1 ≤ c → rank_of code c ≡ rank_in requests a_section code
unfolding rank_of
section_rank code c h = rw (ne_eqb c 0 (omega arith))

-- a code without channel 0 comes with a section, and one without sections with channel 0
pub on_section : (n code c : ℕ) → held_in requests channel_0 code ≡ false → carries requests n code c ≡ true → 1 ≤ c
on_section n code c none h = go (eqb c 0) refl
  where
    go : (t : Bool) → eqb c 0 ≡ t → 1 ≤ c
    go true e =
        let z : c ≡ 0 = eqb-true c 0 e in
        absurd (false≢true (sym none ∙ sym (carries_0 requests n code) ∙ ap (carries requests n code) (sym z) ∙ h))
    go false e = let some = eqb-false c 0 e in omega arith

pub on_protection : (n code c : ℕ) → held_in requests a_section code ≡ false → carries requests n code c ≡ true → c ≡ 0
on_protection n code c none h = go (eqb c 0) refl
  where
    go : (t : Bool) → eqb c 0 ≡ t → c ≡ 0
    go true e = eqb-true c 0 e
    go false e =
        let held = sym (carries_section requests n code c (eqb-false c 0 e)) ∙ h in
        absurd (false≢true (sym none ∙ ((and-eq-true_iff (held_in requests a_section code) (leb c n)).0 held).0))

-- LO, FS and MS stand above every wait
pub command_ranked : (n : ℕ) (x : Request) → is_command x.code ≡ true → carries requests n x.code x.channel ≡ true
    → 3 ≤ rank_of_request x
unfolding rank_of rank_in held_in
command_ranked n x is carried = go (command_cases x.code is)
  where
    on_some : (code : ℕ) → x.code ≡ code → held_in requests channel_0 code ≡ false → 3 ≤ rank_in requests a_section code
        → 3 ≤ rank_of_request x
    on_some code e never high =
        rw (e, section_rank code x.channel (on_section n code x.channel never (rw e at carried))) high

    go : (x.code ≡ 0b1111) ⊎ (x.code ≡ 0b1110) ⊎ (x.code ≡ 0b1000) → 3 ≤ rank_of_request x
    go (inl lo) =
        let zero : x.channel ≡ 0 = on_protection n 0b1111 x.channel refl (rw lo at carried) in rw (lo, zero) (lit≤ tt)
    go (inr (inl fs)) = on_some 0b1110 fs refl (lit≤ tt)
    go (inr (inr ms)) = on_some 0b1000 ms refl (lit≤ tt)
