-- The local request, under a cause of at most one bad section: it is one of three, the command, that section's condition and the
-- wait. (Which cause makes what is sent the local request is in Witness; what every local request is, in Source.)
use mathlib.Core.Path.{◌≡◌, refl, sym, subst, ◌∙◌}
use mathlib.Core.Bool.{Bool, true, false}
use mathlib.Core.List.{List, ◌∷◌}
use mathlib.Core.Logic.{◌⊎◌, inl, inr, ⊎_elim}
use Prim.Native.Nat.{ℕ, suc, ◌+◌, ◌≤◌, ◌<◌}
use native.Mathlib.Nat.{zero-add}
use native.Mathlib.Omega.{arith}
use lib.Dec.{ltb, eqb, lit≤}
use lib.ListN.{length, drop}
use Rattle.pair.specs.Request.{rank_in, rank_of}
use Rattle.request.specs.Order.{same, by_turn, OneOf}
use Rattle.request.specs.Wait.{wait_now}
use Rattle.request.specs.declared.Request.{Request}
use Rattle.request.proofs.FirstCome.{turn_orders}
use Rattle.controller.specs.Rules.{no_request, rank_of_request}
use Rattle.controller.specs.Rules.{held, is_clear, kept, given, replaces_held, in_force, condition, conditions_from}
use Rattle.controller.specs.Rules.{is_wait, enters_wait, waiting, candidates, local_request}
use Rattle.controller.specs.Refusals.{conditions_fit, channel_fits}
use Rattle.controller.specs.Step.{protection}
use Rattle.controller.proofs.Apart.{none_rank}
use Rattle.controller.proofs.Candidates.{candidate_split, candidate_one, local_one, local_top}
use Rattle.explain.specs.Explained.{Cause}
use Rattle.explain.specs.Cause.{only}
use Rattle.explain.proofs.Ranking.{rank_cases}
use Rattle.explain.proofs.Single.{only_length, only_fit, only_whole, only_one, only_there}

-- what is handed to a step meets none of refusals 4 to 7
pub record Fits (n : ℕ) (conditions : List ℕ) (command c : ℕ) : Type 0 where
  pub number : length conditions ≡ n + 1
  pub conditions_fit : conditions_fit conditions ≡ true
  pub command_fits : command ≤ 4
  pub channel_fits : channel_fits n command c ≡ true

module _ (mask w left : ℕ) (last : Request) where
  abbrev pub prior_of : ℕ → Request
  prior_of command = kept command (held last)

  abbrev pub stands_of : ℕ → ℕ → Request
  stands_of command c = in_force (replaces_held (prior_of command) (given command c)) (prior_of command) (given command c)

  abbrev pub now_of : ℕ → ℕ
  now_of command = wait_now (is_clear command) (enters_wait last) (is_wait last.code) w left

  -- where wait remains no clear was given
  pub wait_unclear : (command : ℕ) → 0 < now_of command → now_of command ≡ now_of 0
  wait_unclear command some = go (is_clear command) refl
    where
      go : (t : Bool) → is_clear command ≡ t → now_of command ≡ now_of 0
      go true e = let none : 0 < 0 = rw e at some in absurd (omega arith)
      go false e = rw e

  -- the local request, as the rules have it
  abbrev pub near_of : List ℕ → ℕ → ℕ → Request
  near_of conditions command c =
      local_request mask last (protection conditions) (drop 1 conditions) (stands_of command c) (waiting (now_of command) last)

  -- this cause makes x the local request, with section 0 failed or not
  pub record Makes (n : ℕ) (failed : Bool) (cause : Cause) (x : Request) : Type 0 where
    pub fits : Fits n cause.conditions cause.command cause.channel
    pub protects : eqb (protection cause.conditions) 2 ≡ failed
    pub near : near_of cause.conditions cause.command cause.channel ≡ x

  -- some cause does
  abbrev pub Local : ℕ → Bool → Request → Type 0
  Local n failed x = (cause : Cause) × Makes n failed cause x

  -- x stands above y, or is it
  abbrev pub Under : Request → Request → Type 0
  Under x y = (y ≡ x) ⊎ (rank_of_request y < rank_of_request x)

  under : (x y : Request) → Under x y → (y ≡ x) ⊎ (by_turn rank_of last x y ≡ true)
  under x y (inl same) = inl same
  under x y (inr below) = inr ((turn_orders rank_of last).higher x y below)

  pub none_under : (x : Request) → 0 < rank_of_request x → Under x no_request
  none_under x h = inr (rw none_rank h)

  -- the three sources of a local request, with one section bad at most
  module _ (n command channel c v : ℕ) (within : c ≤ n) where
    abbrev conds : List ℕ
    conds = only (suc n) c v

    abbrev wait : Request
    wait = waiting (now_of command) last

    abbrev all : List Request
    all = candidates mask (protection conds) (drop 1 conds) (stands_of command channel) wait

    pub sources : (y : Request) → OneOf y all
        → (y ≡ stands_of command channel) ⊎ ((y ≡ no_request) ⊎ (y ≡ condition mask c v)) ⊎ (y ≡ wait)
    sources y among = go (candidate_split mask (protection conds) (drop 1 conds) (stands_of command channel) wait y among)
      where
        go : (y ≡ stands_of command channel)
            ⊎ OneOf y (conditions_from mask 0 (protection conds ∷ drop 1 conds))
            ⊎ (y ≡ wait)
            → (y ≡ stands_of command channel) ⊎ ((y ≡ no_request) ⊎ (y ≡ condition mask c v)) ⊎ (y ≡ wait)
        go (inl e) = inl e
        go (inr (inl h)) =
            let here = subst (λ (l : List ℕ). OneOf y (conditions_from mask 0 l)) (only_whole n c v) h in
            inr (inl (rw (zero-add c) at (only_one mask (suc n) 0 c v y here)))
        go (inr (inr e)) = inr (inr e)

    there : OneOf (condition mask c v) (conditions_from mask 0 (protection conds ∷ drop 1 conds))
    there =
        let some : c < suc n = omega arith in
        subst (λ (l : List ℕ). OneOf (condition mask c v) (conditions_from mask 0 l)) (sym (only_whole n c v))
        (rw (zero-add c) at (only_there mask (suc n) 0 c v some))

    -- one of the three is x, and the others stand below it
    pub near_top : (x : Request) → 0 < rank_of_request x
        → Under x (stands_of command channel) → Under x (condition mask c v) → Under x wait
        → (x ≡ stands_of command channel) ⊎ (x ≡ condition mask c v) ⊎ (x ≡ wait)
        → near_of conds command channel ≡ x
    near_top x some stands section waits source =
        local_top mask (protection conds) (drop 1 conds) (stands_of command channel) wait last x
        ((turn_orders rank_of last).higher x no_request (rw none_rank some))
        (λ y among. under x y (below y (sources y among)))
        (candidate_one mask (protection conds) (drop 1 conds) (stands_of command channel) wait x (one source))
      where
        below : (y : Request)
            → (y ≡ stands_of command channel) ⊎ ((y ≡ no_request) ⊎ (y ≡ condition mask c v)) ⊎ (y ≡ wait) → Under x y
        below y (inl e) = rw e stands
        below y (inr (inl (inl e))) = rw e (none_under x some)
        below y (inr (inl (inr e))) = rw e section
        below y (inr (inr e)) = rw e waits

        one : (x ≡ stands_of command channel) ⊎ (x ≡ condition mask c v) ⊎ (x ≡ wait)
            → (x ≡ stands_of command channel)
            ⊎ OneOf x (conditions_from mask 0 (protection conds ∷ drop 1 conds))
            ⊎ (x ≡ wait)
        one (inl e) = inl e
        one (inr (inl e)) =
            inr (inl (subst (λ (y : Request). OneOf y (conditions_from mask 0 (protection conds ∷ drop 1 conds))) (sym e) there))
        one (inr (inr e)) = inr (inr e)

    pub near_none : stands_of command channel ≡ no_request → condition mask c v ≡ no_request → wait ≡ no_request
        → near_of conds command channel ≡ no_request
    near_none stands section waits =
        ⊎_elim (λ e. e) (λ among. none (near_of conds command channel) (sources (near_of conds command channel) among))
        (local_one mask (protection conds) (drop 1 conds) (stands_of command channel) wait last)
      where
        none : (y : Request)
            → (y ≡ stands_of command channel) ⊎ ((y ≡ no_request) ⊎ (y ≡ condition mask c v)) ⊎ (y ≡ wait) → y ≡ no_request
        none y (inl e) = e ∙ stands
        none y (inr (inl (inl e))) = e
        none y (inr (inl (inr e))) = e ∙ section
        none y (inr (inr e)) = e ∙ waits

  pub fits_only : (n command channel c v : ℕ) → v ≤ 2 → command ≤ 4 → channel_fits n command channel ≡ true
      → Fits n (only (suc n) c v) command channel
  fits_only n command channel c v small known fits =
      let long = only_length (suc n) c v in
      record {
        number = omega arith;
        conditions_fit = only_fit (suc n) c v small;
        command_fits = known;
        channel_fits = fits;
      }

  -- a clear leaves neither command nor wait
  pub clear_stands : stands_of 1 0 ≡ no_request
  unfolding rank_of rank_in
  clear_stands = refl

  -- WTR stands below every command
  pub wait_below : (now : ℕ) → rank_of_request (waiting now last) ≤ 2
  unfolding rank_in
  wait_below now = go (ltb 0 now) refl
    where
      go : (t : Bool) → ltb 0 now ≡ t → rank_of_request (waiting now last) ≤ 2
      go true e = rw e (rank_cases (λ (k : ℕ). k ≤ 2) 0b0110 last.channel (lit≤ tt) (lit≤ tt))
      go false e = rw e (rw none_rank (lit≤ tt))
