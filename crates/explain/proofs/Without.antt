-- What the command makes of the local request: a command that is sent is the one in force; and where none is sent, the same is
-- sent without the command in force.
use mathlib.Core.Path.{◌≡◌, refl, sym, ap, ◌∙◌}
use mathlib.Core.Bool.{Bool, true, false, true≢false, false≢true}
use mathlib.Core.List.{List, ◌∷◌}
use mathlib.Core.Logic.{◌⊎◌, inl, inr, ⊎_elim}
use Prim.Native.Nat.{ℕ, ◌<◌, ◌≤◌}
use native.Mathlib.Omega.{arith}
use lib.Dec.{ltb}
use lib.ListN.{get_or}
use borrow.Author.Tests.{ltb-true, ltb-false}
use Rattle.pair.specs.Request.{rank_of}
use Rattle.request.specs.Order.{by_rank, by_turn, OneOf, Orders}
use Rattle.request.specs.declared.Request.{Request}
use Rattle.request.proofs.Order.{rank_orders}
use Rattle.request.proofs.FirstCome.{turn_orders}
use Rattle.controller.specs.Asking.{OfKind}
use Rattle.controller.specs.Rules.{no_request, rank_of_request, is_command, conditions_from, is_wait, candidates, local_request}
use Rattle.controller.specs.Rules.{decided}
use Rattle.controller.proofs.Apart.{none_rank, other_rank, wait_no_command, no_command}
use Rattle.controller.proofs.Candidates.{candidate_split, candidate_one, local_one, local_above, local_only, local_ranked}
use Rattle.controller.proofs.Sections.{some_section}

-- of two requests the one that is not beaten has no lower rank
not_lower : (order : Request → Request → Bool) → Orders rank_of_request order → (x y : Request) → order x y ≡ false
    → rank_of_request x ≤ rank_of_request y
not_lower order by x y loses = go (ltb (rank_of_request y) (rank_of_request x)) refl
  where
    go : (t : Bool) → ltb (rank_of_request y) (rank_of_request x) ≡ t → rank_of_request x ≤ rank_of_request y
    go true e =
        absurd (true≢false (sym (by.higher x y (ltb-true (rank_of_request y) (rank_of_request x) e)) ∙ loses))
    go false e = ltb-false (rank_of_request y) (rank_of_request x) e

module _ (mask protection : ℕ) (working : List ℕ) (last wait : Request) (waits : OfKind is_wait wait) where
  -- a section's condition, or the wait
  abbrev Other : Request → Type 0
  Other y = OneOf y (conditions_from mask 0 (protection ∷ working)) ⊎ (y ≡ wait)

  abbrev near_with : Request → Request
  near_with command = local_request mask last protection working command wait

  abbrev split : (command y : Request) → OneOf y (candidates mask protection working command wait)
      → (y ≡ command) ⊎ Other y
  split command = candidate_split mask protection working command wait

  -- is no command
  other_code : (y : Request) → Other y → is_command y.code ≡ false
  other_code y (inl among) =
      let (c, h, e) = some_section mask y (protection ∷ working) among in rw e (no_command mask c (get_or (protection ∷ working) c 0))
  other_code y (inr e) = rw e (wait_no_command wait waits)

  pub sent_command : (far command : Request) → is_command (decided far (near_with command)).code ≡ true
      → command ≡ decided far (near_with command)
  sent_command far command is = go (by_rank rank_of far (near_with command)) refl
    where
      near : Request
      near = near_with command

      which : is_command near.code ≡ true → command ≡ near
      which is =
          ⊎_elim (λ none. absurd (false≢true (ap (λ (y : Request). is_command y.code) (sym none) ∙ is)))
          (λ among.
          ⊎_elim (λ e. sym e) (λ other. absurd (false≢true (sym (other_code near other) ∙ is))) (split command near among))
          (local_one mask protection working command wait last)

      go : (t : Bool) → by_rank rank_of far near ≡ t → command ≡ decided far near
      go true e = absurd (false≢true (rw e at is))
      go false e = rw e (which (rw e at is))

  module _ (command : Request) (kind : OfKind is_command command) where
    abbrev near : Request
    near = near_with command

    abbrev quiet : Request
    quiet = near_with no_request

    by : Orders rank_of_request (by_turn rank_of last)
    by = turn_orders rank_of last

    -- no candidate without the command beats what is best with it
    unbeaten : (y : Request) → OneOf y (candidates mask protection working no_request wait) → by_turn rank_of last y near ≡ false
    unbeaten y among =
        ⊎_elim (λ none. rw none (by.never no_request near none_rank))
        (λ other.
        local_above mask protection working command wait last y
        (candidate_one mask protection working command wait y (inr other)))
        (split no_request y among)

    none_near : near ≡ no_request → quiet ≡ near
    none_near none =
        ⊎_elim (λ e. e ∙ sym none)
        (λ among.
        let most = not_lower (by_turn rank_of last) by quiet near (unbeaten quiet among) in
        let zero : rank_of_request near ≡ 0 = ap rank_of_request none ∙ none_rank in
        ⊎_elim (λ e. e ∙ sym none) (λ some. absurd (omega arith)) (local_ranked mask protection working no_request wait last))
        (local_one mask protection working no_request wait last)

    other_near : Other near → quiet ≡ near
    other_near other =
        ⊎_elim none_near
        (λ some.
        local_only mask protection working no_request wait last near
        (candidate_one mask protection working no_request wait near (inr other)) some unbeaten)
        (local_ranked mask protection working command wait last)

    nothing : (y : Request) → y ≡ no_request → 0 < rank_of_request near → rank_of_request y < rank_of_request near
    nothing y none some =
        let zero : rank_of_request y ≡ 0 = ap rank_of_request none ∙ none_rank in omega arith

    -- where the command was the best, what is best without it is lower, since no two kinds share a rank
    lower : is_command near.code ≡ true → rank_of_request quiet < rank_of_request near
    lower is =
        ⊎_elim (λ none. absurd (false≢true (ap (λ (y : Request). is_command y.code) (sym none) ∙ is)))
        (λ some.
        ⊎_elim (λ none. nothing quiet none some)
        (λ among.
        ⊎_elim (λ none. nothing quiet none some)
        (λ other.
        let most = not_lower (by_turn rank_of last) by quiet near (unbeaten quiet among) in
        let apart = other_rank is_command near quiet (inl is) (other_code quiet other) some in
        omega arith)
        (split no_request quiet among))
        (local_one mask protection working no_request wait last))
        (local_ranked mask protection working command wait last)

    without : (quiet ≡ near) ⊎ ((is_command near.code ≡ true) × (rank_of_request quiet < rank_of_request near))
    without =
        ⊎_elim (λ none. inl (none_near none))
        (λ among.
        ⊎_elim
        (λ e.
        ⊎_elim
        (λ is.
        let here : is_command near.code ≡ true = ap (λ (y : Request). is_command y.code) e ∙ is in
        inr (here, lower here))
        (λ none. inl (ap near_with (sym none))) kind) (λ other. inl (other_near other)) (split command near among))
        (local_one mask protection working command wait last)

    -- what the far end beats it beats without the command too
    beats_lower : (far : Request) → by_rank rank_of far near ≡ true → rank_of_request quiet < rank_of_request near
        → by_rank rank_of far quiet ≡ true
    beats_lower far wins less =
        let ends = rank_orders rank_of in
        let loses : by_rank rank_of near far ≡ false = go (by_rank rank_of near far) refl in
        let most = not_lower (by_rank rank_of) ends near far loses in
        ends.higher far quiet (omega arith)
      where
        go : (t : Bool) → by_rank rank_of near far ≡ t → by_rank rank_of near far ≡ false
        go true e =
            let ends = rank_orders rank_of in
            absurd (true≢false (sym (ends.transitive far near far wins e) ∙ ends.irreflexive far))
        go false e = e

    pub decided_without : (far : Request) → is_command (decided far near).code ≡ false
        → decided far quiet ≡ decided far near
    decided_without far other =
        ⊎_elim (ap (decided far)) (λ lost. go (by_rank rank_of far near) refl lost.0 lost.1) without
      where
        go : (t : Bool) → by_rank rank_of far near ≡ t → is_command near.code ≡ true
            → rank_of_request quiet < rank_of_request near → decided far quiet ≡ decided far near
        go true e is less = rw (e, beats_lower far e less)
        go false e is less = absurd (true≢false (sym is ∙ (rw e at other)))
