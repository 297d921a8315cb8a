-- NR has no rank, whatever its channel.
use Rattle.std.proofs.Common.{◌≡◌, refl, sym, Bool, true, false, ℕ, eqb}
use Rattle.pair.specs.Request.{nothing_code, rank_in, rank_of}
use Rattle.controller.proofs.asked.rank_of.Goals as goal

nothing_rank : (c : ℕ) → rank_of nothing_code c ≡ 0
unfolding rank_of rank_in
nothing_rank c = go (eqb c 0) refl
  where
    go : (t : Bool) → eqb c 0 ≡ t → rank_of nothing_code c ≡ 0
    go true e = rw e
    go false e = rw e

pub returns-then-r-eq-NOTHING : goal.returns-then-r-eq-NOTHING
returns-then-r-eq-NOTHING c = rw c.if-r-eq-NOTHING.true (sym (nothing_rank c.args.r.channel))
