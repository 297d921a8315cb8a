-- Laws of the candidates for the local request.
use mathlib.Core.Path.{◌≡◌, refl, sym, ◌∙◌}
use mathlib.Core.Bool.{Bool, true, false, true≢false}
use mathlib.Core.List.{List, [], ◌∷◌}
use mathlib.Core.Logic.{◌⊎◌, inl, inr, ⊎_elim}
use Prim.Native.Nat.{ℕ, ◌<◌, ◌≤◌}
use native.Mathlib.Omega.{arith}
use lib.Dec.{ltb, eqb}
use borrow.Author.Tests.{ltb-true, ltb-false}
use Rattle.pair.specs.Request.{rank_in, rank_of}
use Rattle.pair.proofs.Ranks.{rank_own}
use Rattle.request.specs.Order.{by_turn, OneOf, Orders}
use Rattle.request.specs.declared.Request.{Request}
use Rattle.request.proofs.Order.{one_split, one_joined, best_one, best_above, best_beats, best_only, best_single, best_top}
use Rattle.request.proofs.Order.{tie_lost, lower_first}
use Rattle.request.proofs.FirstCome.{turn_orders}
use Rattle.controller.specs.Rules.{reverse, no_request, rank_of_request, conditions_from, candidates, local_request, decided}
use Rattle.controller.proofs.Apart.{none_rank}

-- RR and NR have rank 0 in the table
pub reverse_rank : (c : ℕ) → rank_of 0b0010 c ≡ 0
unfolding rank_of rank_in
reverse_rank c = go (eqb c 0) refl
  where
    go : (t : Bool) → eqb c 0 ≡ t → rank_of 0b0010 c ≡ 0
    go true e = rw e
    go false e = rw e

pub reverse_loses : (c : ℕ) (near : Request) → decided (reverse c) near ≡ near
reverse_loses c near = rw (reverse_rank c)

pub none_loses : (near : Request) → decided no_request near ≡ near
unfolding rank_of rank_in
none_loses near = refl

-- between the ends the lower channel wins, and ours where the channels are equal
pub ends_lower : (far near : Request) → 0 < rank_of_request far → rank_of_request far ≡ rank_of_request near
    → far.channel < near.channel → decided far near ≡ reverse far.channel
ends_lower far near some same lower =
    rw (lower_first rank_of_request (λ (r : Request). r.channel) far near some (sym same) lower)

pub ends_ours : (far near : Request) → rank_of_request far ≡ rank_of_request near → near.channel ≤ far.channel
    → decided far near ≡ near
ends_ours far near same above =
    rw (tie_lost (rank_of_request far) far.channel (rank_of_request near) near.channel same above)

module _ (mask protection : ℕ) (working : List ℕ) (command wait : Request) where
  abbrev all : List Request
  all = candidates mask protection working command wait

  -- a candidate is the command, a section's or the wait
  pub candidate_split : (x : Request) → OneOf x all
      → (x ≡ command) ⊎ OneOf x (conditions_from mask 0 (protection ∷ working)) ⊎ (x ≡ wait)
  candidate_split x (inl same) = inl same
  candidate_split x (inr among) =
      ⊎_elim (λ h. inr (inl h)) (λ h. inr (inr (⊎_elim (λ e. e) absurd h)))
      (one_split x (conditions_from mask 0 (protection ∷ working)) (wait ∷ []) among)

  pub candidate_one : (x : Request)
      → (x ≡ command) ⊎ OneOf x (conditions_from mask 0 (protection ∷ working)) ⊎ (x ≡ wait) → OneOf x all
  candidate_one x (inl same) = inl same
  candidate_one x (inr (inl h)) =
      inr (one_joined x (conditions_from mask 0 (protection ∷ working)) (wait ∷ []) (inl h))
  candidate_one x (inr (inr same)) =
      inr (one_joined x (conditions_from mask 0 (protection ∷ working)) (wait ∷ []) (inr (inl same)))

  module _ (last : Request) where
    abbrev order : Request → Request → Bool
    order = by_turn rank_of last

    abbrev near : Request
    near = local_request mask last protection working command wait

    by : Orders rank_of_request order
    by = turn_orders rank_of last

    pub local_one : (near ≡ no_request) ⊎ OneOf near all
    unfolding local_request
    local_one = best_one order all no_request

    pub local_above : (x : Request) → OneOf x all → order x near ≡ false
    unfolding local_request
    local_above x among = best_above order by.irreflexive by.transitive all no_request x (inr among)

    -- it is NR 0, or has a rank
    pub local_ranked : (near ≡ no_request) ⊎ (0 < rank_of_request near)
    unfolding local_request
    local_ranked =
        ⊎_elim inl (λ beats. inr (some beats)) (best_beats order by.irreflexive by.transitive all no_request)
      where
        some : order near no_request ≡ true → 0 < rank_of_request near
        some beats = go (ltb 0 (rank_of_request near)) refl
          where
            go : (t : Bool) → ltb 0 (rank_of_request near) ≡ t → 0 < rank_of_request near
            go true e = ltb-true 0 (rank_of_request near) e
            go false e =
                let least = ltb-false 0 (rank_of_request near) e in
                let zero : rank_of_request near ≡ 0 = omega arith in
                absurd (true≢false (sym beats ∙ by.never near no_request zero))

    pub local_single : (x : Request) → order x no_request ≡ true
        → ((y : Request) → OneOf y all → (y ≡ x) ⊎ (order y no_request ≡ false)) → OneOf x all → near ≡ x
    unfolding local_request
    local_single x wins = best_single order by.irreflexive by.transitive no_request x wins all

    pub local_top : (x : Request) → order x no_request ≡ true
        → ((y : Request) → OneOf y all → (y ≡ x) ⊎ (order x y ≡ true)) → OneOf x all → near ≡ x
    unfolding local_request
    local_top x wins = best_top order by.irreflexive by.transitive no_request x wins all

    -- a candidate that no candidate beats is the local request: ranks above 0 are one code's alone
    pub local_only : (x : Request) → OneOf x all → 0 < rank_of_request x
        → ((y : Request) → OneOf y all → order y x ≡ false) → near ≡ x
    unfolding local_request
    local_only x among some unbeaten =
        let found = best_only rank_of_request order by no_request all x among (rw none_rank some) unbeaten in
        let code : near.code ≡ x.code =
        rank_own near.code near.channel x.code x.channel (rw found.0 some) found.0 in
        λ i. record { code = code i; channel = found.1 i }
