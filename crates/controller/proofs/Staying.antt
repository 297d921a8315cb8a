-- First come stays (02, d): what was last sent for a section is the local request again, while the section asks for it, no
-- candidate has a higher rank and section 0 does not ask at the same rank; and it is sent, if the far end does not win.
use mathlib.Core.Path.{◌≡◌, refl, sym, ap, subst, ◌∙◌}
use mathlib.Core.Bool.{Bool, true, false}
use mathlib.Core.List.{List, [], ◌∷◌}
use mathlib.Core.Logic.{◌⊎◌, inl, inr}
use Prim.Native.Nat.{ℕ, ◌+◌, ◌<◌, ◌≤◌}
use native.Mathlib.Nat.{not-suc-le-zero}
use native.Mathlib.Omega.{arith}
use lib.Dec.{ltb}
use lib.ListN.{length, get_or, drop, get_or-eq_default}
use borrow.Author.Tests.{ltb-true, ltb-false}
use Rattle.basics.proofs.Fitting.{fit_bounds}
use Rattle.pair.specs.Request.{rank_of}
use Rattle.request.specs.Order.{turn, by_rank, by_turn, best, OneOf}
use Rattle.request.specs.declared.Request.{Request}
use Rattle.request.proofs.Order.{NoneAbove, best_asked, lower_first}
use Rattle.request.proofs.FirstCome.{turn_orders, Turns, turn_cases, turn_again}
use Rattle.controller.specs.Rules.{no_request, asked, k1_of, rank_of_request, is_command, condition, conditions_from, is_wait}
use Rattle.controller.specs.Rules.{candidates, local_request, decided}
use Rattle.controller.specs.Step.{protection, wait_of, moved}
use Rattle.controller.specs.Run.{Input, step_by, conditions_in, candidates_in, accepted_in}
use Rattle.controller.specs.Asking.{OfKind, asks}
use Rattle.controller.specs.declared.Controller.{Controller}
use Rattle.controller.specs.Step.{Stepped}
use Rattle.controller.proofs.Apart.{none_rank, other_rank, wait_kind, no_command, no_wait, own_channel}
use Rattle.controller.proofs.Candidates.{candidate_split, candidate_one}
use Rattle.controller.proofs.Sections.{some_section, section_one}
use Rattle.controller.proofs.Inputs.{WellFormed, well_formed}
use Rattle.controller.proofs.Sending.{stands_kind}
use Rattle.controller.proofs.Keeping.{Kept, Sent, k1_back, not_refused_lem, step_keeps}

module _ (mask protect : ℕ) (working : List ℕ) (command wait : Request) (commands : OfKind is_command command)
    (waits : OfKind is_wait wait) (c : ℕ) (within : c < length (protect ∷ working)) where
  abbrev sections : List ℕ
  sections = protect ∷ working

  abbrev x : Request
  x = asks mask sections c

  abbrev all : List Request
  all = candidates mask protect working command wait

  module _ (some : 0 < rank_of_request x) (other : rank_of_request (asks mask sections 0) ≡ rank_of_request x → ⊥) where
    own : x.channel ≡ c
    own = own_channel mask c (get_or sections c 0) some

    -- it is not section 0's
    working_section : x.channel ≡ 0 → ⊥
    working_section on-0 = other (ap (λ (i : ℕ). rank_of_request (asks mask sections i)) (sym on-0 ∙ own))

    -- no candidate of its rank is section 0's
    none_zero : (y : Request) → OneOf y all → rank_of_request y ≡ rank_of_request x → y.channel ≡ 0 → ⊥
    none_zero y one same on-0 = go (candidate_split mask protect working command wait y one)
      where
        go : (y ≡ command) ⊎ OneOf y (conditions_from mask 0 sections) ⊎ (y ≡ wait) → ⊥
        go (inl e) =
            other_rank is_command command x commands (no_command mask c (get_or sections c 0)) (rw (← e, same) some)
            (sym same ∙ ap rank_of_request e)
        go (inr (inr e)) =
            other_rank is_wait wait x waits (no_wait mask c (get_or sections c 0)) (rw (← e, same) some)
            (sym same ∙ ap rank_of_request e)
        go (inr (inl among)) =
            let (i, l, e) = some_section mask y sections among in
            let ranked : rank_of_request (asks mask sections i) ≡ rank_of_request x = ap rank_of_request (sym e) ∙ same in
            let at : i ≡ 0 =
            sym (own_channel mask i (get_or sections i 0) (rw ranked some)) ∙ ap (λ (r : Request). r.channel) (sym e) ∙ on-0 in
            other (ap (λ (k : ℕ). rank_of_request (asks mask sections k)) (sym at) ∙ ranked)

    local_stays : NoneAbove rank_of_request all (rank_of_request x) → best (by_turn rank_of x) no_request all ≡ x
    local_stays above =
        best_asked rank_of_request (by_turn rank_of x) (turn_orders rank_of x) no_request all x
        (candidate_one mask protect working command wait x (inr (inl (section_one mask sections c within))))
        (rw none_rank some) above first
      where
        first : (y : Request) → OneOf y all → rank_of_request y ≡ rank_of_request x → (y ≡ x) ⊎ (by_turn rank_of x x y ≡ true)
        first y one same = go (turn_cases x y)
          where
            go : Turns x y → (y ≡ x) ⊎ (by_turn rank_of x x y ≡ true)
            go (inl (t, on-0)) = absurd (none_zero y one same on-0)
            go (inr (inl (t, is, on))) = inl is
            go (inr (inr (t, on))) =
                inr (lower_first rank_of_request (turn x) x y some same (rw (turn_again x working_section, t) (omega arith)))

-- section 0 stands first
whole : (xs : List ℕ) → 1 ≤ length xs → (protection xs ∷ drop 1 xs) ≡ xs
whole [] h = absurd (not-suc-le-zero h)
whole (x ∷ xs) h = refl

-- only a section that is there asks for anything
asking_within : (mask c : ℕ) (xs : List ℕ) → 0 < rank_of_request (asks mask xs c) → c < length xs
asking_within mask c xs some = go (ltb c (length xs)) refl
  where
    go : (t : Bool) → ltb c (length xs) ≡ t → c < length xs
    go true e = ltb-true c (length xs) e
    go false e =
        let good : get_or xs c 0 ≡ 0 = get_or-eq_default xs 0 (ltb-false c (length xs) e) in
        let none : 0 < 0 = rw (good, none_rank) at some in
        absurd (omega arith)

module _ (s : Controller) (i : Input) (goes : (step_by s i).refusal ≡ 0) where
  abbrev last : Request
  last = asked s.sent

  abbrev near_by : Request → Request
  near_by sent = best (by_turn rank_of sent) no_request (candidates_in s i)

  well : WellFormed s (conditions_in s i) i.command i.channel
  well =
      well_formed s (conditions_in s i) i.command i.channel
      (not_refused_lem s i.k1 i.k2 i.conditions i.command i.channel goes).0

  number : length (conditions_in s i) ≡ s.n + 1
  number = well.number

  -- what a step sends, by what it has accepted and by its candidates
  pub decides : (step_by s i).k1 ≡ k1_of (decided (accepted_in s i) (near_by last))
  unfolding moved local_request
  decides = rw (not_refused_lem s i.k1 i.k2 i.conditions i.command i.channel goes).1

  -- from a record that has last sent x, which section c asks for
  module _ (c : ℕ) (x : Request) (sent : last ≡ x) (asks-again : asks s.mask (conditions_in s i) c ≡ x)
      (some : 0 < rank_of_request x) (above : NoneAbove rank_of_request (candidates_in s i) (rank_of_request x))
      (other : rank_of_request (condition s.mask 0 (protection (conditions_in s i))) ≡ rank_of_request x → ⊥) where
    near_stays : near_by last ≡ x
    near_stays =
        ap near_by sent
        ∙ subst (λ (r : Request). near_by r ≡ r) is
        (local_stays s.mask (protection (conditions_in s i)) (drop 1 (conditions_in s i)) _ _
        (stands_kind s (conditions_in s i) i.command i.channel well)
        (wait_kind (wait_of s last i.command) last) c (asking_within s.mask c all_sections ranked) ranked
        (λ h. other (h ∙ ap rank_of_request is)) none_above)
      where
        all_sections : List ℕ
        all_sections = protection (conditions_in s i) ∷ drop 1 (conditions_in s i)

        is : asks s.mask all_sections c ≡ x
        is = ap (λ (xs : List ℕ). asks s.mask xs c) (whole (conditions_in s i) (omega (arith, number))) ∙ asks-again

        ranked : 0 < rank_of_request (asks s.mask all_sections c)
        ranked = rw is some

        none_above : NoneAbove rank_of_request (candidates_in s i) (rank_of_request (asks s.mask all_sections c))
        none_above = rw is above

    sent_again : by_rank rank_of (accepted_in s i) x ≡ false → (step_by s i).k1 ≡ k1_of x
    sent_again loses = decides ∙ ap (λ (r : Request). k1_of (decided (accepted_in s i) r)) near_stays ∙ rw loses

-- a step sends what section c asks for, and so does the next one
module _ (s : Controller) (i j : Input) (c : ℕ) where
  abbrev before : Stepped
  before = step_by s i

  abbrev after : Stepped
  after = step_by before.controller j

  abbrev asks_for : Request
  asks_for = condition s.mask c (get_or (conditions_in s i) c 0)

  pub stays : before.refusal ≡ 0 → after.refusal ≡ 0 → 0 < rank_of_request asks_for → before.k1 ≡ k1_of asks_for
      → get_or (conditions_in before.controller j) c 0 ≡ get_or (conditions_in s i) c 0
      → NoneAbove rank_of_request (candidates_in before.controller j) (rank_of_request asks_for)
      → (rank_of_request (condition s.mask 0 (protection (conditions_in before.controller j))) ≡ rank_of_request asks_for
      → ⊥)
      → by_rank rank_of (accepted_in before.controller j) asks_for ≡ false
      → after.k1 ≡ before.k1
  stays goes goes_on some sends keeps above other loses =
      sent_again before.controller j goes_on c asks_for last_sent again some above
      (λ h.
      other
      (ap (λ (m : ℕ). rank_of_request (condition m 0 (protection (conditions_in before.controller j)))) (sym mask) ∙ h))
      loses
      ∙ sym sends
    where
      kept_by : Kept s before × Sent s before
      kept_by = step_keeps s i.k1 i.k2 i.conditions i.command i.channel goes

      mask : before.controller.mask ≡ s.mask
      mask = kept_by.0.priorities

      -- its channel has room in a K1
      room : asks_for.channel ≤ 14
      room =
          let own = own_channel s.mask c (get_or (conditions_in s i) c 0) some in
          let within = asking_within s.mask c (conditions_in s i) some in
          let number = (well s i goes).number in
          let bounds = (fit_bounds s.n (well s i goes).fits).1 in
          omega arith

      last_sent : asked before.controller.sent ≡ asks_for
      last_sent =
          ap asked (sym kept_by.1.recorded ∙ sends)
          ∙ (let back = k1_back asks_for room in λ i. record { code = back.0 i; channel = back.1 i })

      again : asks before.controller.mask (conditions_in before.controller j) c ≡ asks_for
      again = rw (mask, keeps)
