-- Ranks of requests by their codes, as the table has them.
use mathlib.Core.Path.{◌≡◌, refl}
use mathlib.Core.Bool.{Bool, true, false}
use Prim.Native.Nat.{ℕ, ◌≤◌, ◌<◌}
use native.Mathlib.Omega.{arith}
use lib.Dec.{eqb, lit<}
use borrow.Author.Tests.{eqb-true, eqb-false}
use Rattle.pair.specs.Request.{requests, channel_0, a_section, rank_in, rank_of}
use Rattle.controller.specs.Settings.{high}
use Rattle.controller.specs.Rules.{fail_code, degrade_code}
use Rattle.controller.proofs.Ranking.{section_rank}

-- on which channel a request stands, its rank is one of two
pub rank_cases : (P : ℕ → Type 0) (code c : ℕ) → P (rank_in requests channel_0 code) → P (rank_in requests a_section code)
    → P (rank_of code c)
unfolding rank_of
rank_cases P code c zero some = go (eqb c 0) refl
  where
    go : (t : Bool) → eqb c 0 ≡ t → P (rank_of code c)
    go true e = rw e zero
    go false e = rw e some

-- what is asked for by a failed section, and by a degraded one, has a rank
pub fail_rank : (is_high : Bool) (c : ℕ) → 1 ≤ c → (0 < rank_of (fail_code is_high) c) × (rank_of (fail_code is_high) c < 9)
unfolding rank_in
fail_rank true c h = rw (section_rank 0b1101 c h) (lit< tt, lit< tt)
fail_rank false c h = rw (section_rank 0b1100 c h) (lit< tt, lit< tt)

pub degrade_rank : (mask c : ℕ) → 0 < rank_of (degrade_code (high mask c)) c
unfolding rank_of rank_in
degrade_rank mask c = go (eqb c 0) refl
  where
    on_some : (is_high : Bool) → 1 ≤ c → 0 < rank_of (degrade_code is_high) c
    on_some true h = rw (section_rank 0b1011 c h) (lit< tt)
    on_some false h = rw (section_rank 0b1010 c h) (lit< tt)

    go : (t : Bool) → eqb c 0 ≡ t → 0 < rank_of (degrade_code (high mask c)) c
    go true e = let z : c ≡ 0 = eqb-true c 0 e in rw z (lit< tt)
    go false e = let some = eqb-false c 0 e in on_some (high mask c) (omega arith)
