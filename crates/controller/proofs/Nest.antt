-- The local request, asked for rank by rank from the top, and within a rank turn by turn.
use mathlib.Core.Path.{◌≡◌, refl, sym, ap, ◌∙◌}
use mathlib.Core.Bool.{Bool, true, false}
use mathlib.Core.List.{List, ◌∷◌}
use mathlib.Core.Logic.{◌⊎◌, inl, inr, ⊎_elim}
use Prim.Native.Nat.{ℕ, ◌-◌, ◌<◌, ◌≤◌}
use native.Mathlib.Omega.{arith}
use lib.Dec.{ltb, eqb}
use lib.ListN.{length, get_or}
use borrow.Author.Tests.{eqb-true, eqb-false, ltb-true, ltb-false}
use Rattle.pair.specs.Request.{rank_of}
use Rattle.pair.proofs.Ranks.{rank_most}
use Rattle.request.specs.Order.{turn, by_turn, OneOf, Orders}
use Rattle.request.specs.declared.Request.{Request}
use Rattle.request.proofs.Order.{NoneAbove, next_asked, best_asked, none_asked, lower_first}
use Rattle.request.proofs.FirstCome.{turn_orders}
use Rattle.controller.specs.Rules.{no_request, rank_of_request, is_command, conditions_from, is_wait, candidates, local_request}
use Rattle.controller.specs.Asking.{OfKind, asks, section_at, Ranked}
use Rattle.controller.proofs.Candidates.{candidate_split, candidate_one}
use Rattle.controller.proofs.Apart.{none_rank, other_rank, wait_no_command, no_command, no_wait}
use Rattle.controller.proofs.Sections.{some_section, section_one, apart}

-- What is handed in, and what is worked out of it before the ranks are asked for.
pub record Nest : Type 0 where
  pub mask : ℕ
  pub last : Request
  pub protection : ℕ
  pub working : List ℕ
  pub command : Request
  pub wait : Request
  pub ranks : List ℕ
  pub past_last : ℕ

module _ (nest : Nest) where
  -- Of the order within a rank no more is used than where a section is found.
  abbrev order : Request → Request → Bool
  order = by_turn rank_of nest.last

  by : Orders rank_of_request order
  by = turn_orders rank_of nest.last

  abbrev sections : List ℕ
  sections = nest.protection ∷ nest.working

  abbrev all : List Request
  all = candidates nest.mask nest.protection nest.working nest.command nest.wait

  abbrev near : Request
  near = local_request nest.mask nest.last nest.protection nest.working nest.command nest.wait

  abbrev asks_at : ℕ → Request
  asks_at c = asks nest.mask sections c

  abbrev pub Worked : Type 0
  Worked = Ranked nest.mask sections nest.last nest.ranks (length sections) nest.past_last

  -- no candidate has a rank above the asked one
  pub record Asked (asked : ℕ) : Type 0 where
    pub above : NoneAbove rank_of_request all asked

  pub first_asked : (top : ℕ) → 10 ≤ top → Asked top
  first_asked top enough =
      record { above = λ y one. let most = rank_most y.code y.channel in omega arith }

  pub none_found : Asked 0 → near ≡ no_request
  unfolding local_request
  none_found now = none_asked rank_of_request order by no_request all now.above

  -- the command and the wait have other ranks than the asked one, and so has whoever's turn was seen
  pub record Passed (asked : ℕ) (seen : ℕ → Type 0) : Type 0 where
    pub command_other : rank_of_request nest.command ≡ asked → ⊥
    pub wait_other : rank_of_request nest.wait ≡ asked → ⊥
    pub turns_other : (t : ℕ) → seen t → get_or nest.ranks t 0 ≡ asked → ⊥

  module _ (asked : ℕ) where
    pub none_passed : (seen : ℕ → Type 0) → ((t : ℕ) → seen t → ⊥) → (rank_of_request nest.command ≡ asked → ⊥)
        → (rank_of_request nest.wait ≡ asked → ⊥) → Passed asked seen
    none_passed seen none command_other wait_other =
        record {
          command_other = command_other;
          wait_other = wait_other;
          turns_other = λ t h. absurd (none t h);
        }

    -- one turn more is seen, and it has another rank
    pub one_passed : (before after : ℕ → Type 0) (at : ℕ) → ((t : ℕ) → after t → (t ≡ at → ⊥) → before t)
        → Passed asked before → (get_or nest.ranks at 0 ≡ asked → ⊥) → Passed asked after
    one_passed before after at else passed other =
        record {
          command_other = passed.command_other;
          wait_other = passed.wait_other;
          turns_other = λ t h. go t h (eqb t at) refl;
        }
      where
        go : (t : ℕ) → after t → (z : Bool) → eqb t at ≡ z → get_or nest.ranks t 0 ≡ asked → ⊥
        go t h true e = rw (eqb-true t at e) other
        go t h false e = passed.turns_other t (else t h (eqb-false t at e))

    -- who asks for something: the command, a section, the wait
    abbrev Asker : Request → Type 0
    Asker y = (y ≡ nest.command) ⊎ ((c : ℕ) × (c < length sections) × (y ≡ asks_at c)) ⊎ (y ≡ nest.wait)

    asker : (y : Request) → OneOf y all → Asker y
    asker y one =
        ⊎_elim inl (λ others. inr (⊎_elim (λ among. inl (some_section nest.mask y sections among)) inr others))
        (candidate_split nest.mask nest.protection nest.working nest.command nest.wait y one)

    candidate : (x : Request) → (x ≡ nest.command) ⊎ OneOf x (conditions_from nest.mask 0 sections) ⊎ (x ≡ nest.wait)
        → OneOf x all
    candidate = candidate_one nest.mask nest.protection nest.working nest.command nest.wait

    module _ (some : 0 < asked) (worked : Worked) (now : Asked asked) where
      -- a candidate of the asked rank is the local request, if it comes before every other of this rank
      hit : (x : Request) → OneOf x all → rank_of_request x ≡ asked
          → ((y : Request) → rank_of_request y ≡ asked → Asker y → (y ≡ x) ⊎ (order x y ≡ true)) → near ≡ x
      unfolding local_request
      hit x one has first =
          best_asked rank_of_request order by no_request all x one (rw (none_rank, has) some) (rw has now.above)
          (λ y among same. first y (same ∙ has) (asker y among))

      not_command : (y : Request) → (rank_of_request nest.command ≡ asked → ⊥) → rank_of_request y ≡ asked
          → y ≡ nest.command → ⊥
      not_command y other h e = other (ap rank_of_request (sym e) ∙ h)

      pub command_hit : OfKind is_command nest.command → OfKind is_wait nest.wait → rank_of_request nest.command ≡ asked
          → near ≡ nest.command
      command_hit commands waits has = hit nest.command (candidate nest.command (inl refl)) has first
        where
          other : (y : Request) → is_command y.code ≡ false → rank_of_request y ≡ asked → ⊥
          other y kind h = other_rank is_command nest.command y commands kind (rw has some) (h ∙ sym has)

          first : (y : Request) → rank_of_request y ≡ asked → Asker y → (y ≡ nest.command) ⊎ (order nest.command y ≡ true)
          first y h (inl e) = inl e
          first y h (inr (inl (c, l, e))) = absurd (other y (rw e (no_command nest.mask c (get_or sections c 0))) h)
          first y h (inr (inr e)) = absurd (other y (rw e (wait_no_command nest.wait waits)) h)

      pub wait_hit : OfKind is_wait nest.wait → (rank_of_request nest.command ≡ asked → ⊥)
          → rank_of_request nest.wait ≡ asked → near ≡ nest.wait
      wait_hit waits passed has = hit nest.wait (candidate nest.wait (inr (inr refl))) has first
        where
          first : (y : Request) → rank_of_request y ≡ asked → Asker y → (y ≡ nest.wait) ⊎ (order nest.wait y ≡ true)
          first y h (inl e) = absurd (not_command y passed h e)
          first y h (inr (inl (c, l, e))) =
              let kind : is_wait y.code ≡ false = rw e (no_wait nest.mask c (get_or sections c 0)) in
              absurd (other_rank is_wait nest.wait y waits kind (rw has some) (h ∙ sym has))
          first y h (inr (inr e)) = inl e

      module _ (seen : ℕ → Type 0) (passed : Passed asked seen) where
        not_wait : (y : Request) → rank_of_request y ≡ asked → y ≡ nest.wait → ⊥
        not_wait y h e = passed.wait_other (ap rank_of_request (sym e) ∙ h)

        -- a section of the asked rank is none of those whose turn was seen
        not_seen : (i : ℕ) → i < length sections → rank_of_request (asks_at i) ≡ asked → seen (turn nest.last (asks_at i)) → ⊥
        not_seen i l has h =
            passed.turns_other (turn nest.last (asks_at i)) h (worked.rank_is i l (rw has some) ∙ has)

        -- a turn that has the asked rank is a section's
        module _ (at : ℕ) (same : get_or nest.ranks at 0 ≡ asked) where
          abbrev c : ℕ
          c = section_at nest.last at

          pub hit_within : c < length sections
          hit_within = (worked.section_is at (rw same some)).0

          has : rank_of_request (asks_at c) ≡ asked
          has = (worked.section_is at (rw same some)).1.own_rank ∙ same

          own : turn nest.last (asks_at c) ≡ at
          own = (worked.section_is at (rw same some)).1.own_turn

          -- where the lower turns were seen, it comes before the others
          before_others : ((t : ℕ) → t < at → seen t) → (i : ℕ) → i < length sections → rank_of_request (asks_at i) ≡ asked
              → (asks_at i ≡ asks_at c) ⊎ (order (asks_at c) (asks_at i) ≡ true)
          before_others lower i l there = go (ltb turn_i at) (ltb at turn_i) refl refl
            where
              turn_i : ℕ
              turn_i = turn nest.last (asks_at i)

              go : (before after : Bool) → ltb turn_i at ≡ before → ltb at turn_i ≡ after
                  → (asks_at i ≡ asks_at c) ⊎ (order (asks_at c) (asks_at i) ≡ true)
              go true after f g = absurd (not_seen i l there (lower turn_i (ltb-true turn_i at f)))
              go false true f g =
                  inr (lower_first rank_of_request (turn nest.last) (asks_at c) (asks_at i) (rw has some) (there ∙ sym has)
                  (rw own (ltb-true at turn_i g)))
              go false false f g =
                  let low = ltb-false turn_i at f in
                  let up = ltb-false at turn_i g in
                  let together : turn_i ≡ at = omega arith in
                  inl (ap asks_at (apart nest.mask sections nest.last i c (rw there some) (rw has some) (together ∙ sym own)))

          pub section_hit : ((t : ℕ) → t < at → seen t) → near ≡ asks_at c
          section_hit lower =
              hit (asks_at c) (candidate (asks_at c) (inr (inl (section_one nest.mask sections c hit_within)))) has first
            where
              first : (y : Request) → rank_of_request y ≡ asked → Asker y → (y ≡ asks_at c) ⊎ (order (asks_at c) y ≡ true)
              first y h (inl e) = absurd (not_command y passed.command_other h e)
              first y h (inr (inr e)) = absurd (not_wait y h e)
              first y h (inr (inl (i, l, e))) = rw e (before_others lower i l (ap rank_of_request (sym e) ∙ h))

        -- where all were seen, the next rank is asked for
        pub next_rank : ((t : ℕ) → t < nest.past_last → seen t) → Asked (asked - 1)
        next_rank whole =
            record { above = next_asked rank_of_request all asked now.above (λ y one h. other y h (asker y one)) }
          where
            other : (y : Request) → rank_of_request y ≡ asked → Asker y → ⊥
            other y h (inl e) = not_command y passed.command_other h e
            other y h (inr (inr e)) = not_wait y h e
            other y h (inr (inl (i, l, e))) =
                let there : rank_of_request (asks_at i) ≡ asked = ap rank_of_request (sym e) ∙ h in
                not_seen i l there (whole (turn nest.last (asks_at i)) (worked.looked_at i l (rw there some)))
