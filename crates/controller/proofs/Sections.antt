-- What the sections ask for, one by one, and the ranks of it.
use mathlib.Core.Path.{◌≡◌, refl, sym, ap, subst, ◌∙◌}
use mathlib.Core.Bool.{Bool, true, false}
use mathlib.Core.List.{List, [], ◌∷◌}
use mathlib.Core.Logic.{inl, inr, ⊎_elim}
use Prim.Native.Nat.{ℕ, zero, suc, ◌+◌, ◌<◌, ◌≤◌, zero-le, suc-le-suc}
use native.Mathlib.Nat.{add-zero, zero-add, add-suc, suc-add, le_of_suc-le-suc, not-suc-le-zero}
use native.Mathlib.Omega.{arith}
use lib.Dec.{eqb}
use lib.ListN.{length, get_or, set, drop, replicate, length-set}
use lib.Seq.{get_or-set_same, get_or-set_other}
use borrow.Author.Tests.{eqb-true, eqb-false, ne_eqb}
use Rattle.request.specs.Order.{turn, OneOf}
use Rattle.request.specs.declared.Request.{Request}
use Rattle.request.proofs.FirstCome.{Turns, turn_cases, turn_own}
use Rattle.controller.specs.Rules.{rank_of_request, condition, conditions_from}
use Rattle.controller.specs.Asking.{asks, section_at, AtTurn, Laid, Ranked}
use Rattle.controller.proofs.Apart.{own_channel}

-- where the first of some conditions is another, the rest are as they were, and as many
pub past_first : (x : ℕ) (xs : List ℕ) (i : ℕ) → (i ≡ 0 → ⊥) → get_or (x ∷ drop 1 xs) i 0 ≡ get_or xs i 0
past_first x xs zero h = absurd (h refl)
past_first x [] (suc i) h = refl
past_first x (y ∷ xs) (suc i) h = refl

pub as_long : (x : ℕ) (xs : List ℕ) → 1 ≤ length xs → length (x ∷ drop 1 xs) ≡ length xs
as_long x [] h = absurd (not-suc-le-zero h)
as_long x (y ∷ xs) h = refl

module _ (mask : ℕ) where
  pub conditions_asked : (y : Request) (i : ℕ) (xs : List ℕ) → OneOf y (conditions_from mask i xs)
      → (k : ℕ) × (k < length xs) × (y ≡ condition mask (i + k) (get_or xs k 0))
  conditions_asked y i [] h = absurd h
  conditions_asked y i (x ∷ xs) (inl same) = (0, suc-le-suc zero-le, rw (add-zero i) same)
  conditions_asked y i (x ∷ xs) (inr among) =
      let (k, h, same) = conditions_asked y (suc i) xs among in
      (suc k, suc-le-suc h, rw (add-suc i k, ← suc-add i k) same)

  asked_conditions : (i : ℕ) (xs : List ℕ) (k : ℕ) → k < length xs
      → OneOf (condition mask (i + k) (get_or xs k 0)) (conditions_from mask i xs)
  asked_conditions i [] k h = absurd (not-suc-le-zero h)
  asked_conditions i (x ∷ xs) zero h = inl (ap (λ (c : ℕ). condition mask c x) (add-zero i))
  asked_conditions i (x ∷ xs) (suc k) h =
      let P : ℕ → Type 0 = λ c. OneOf (condition mask c (get_or xs k 0)) (conditions_from mask (suc i) xs) in
      inr (subst P (suc-add i k ∙ sym (add-suc i k)) (asked_conditions (suc i) xs k (le_of_suc-le-suc h)))

  -- what is asked for by conditions is asked for by some section, and the other way round
  pub some_section : (y : Request) (xs : List ℕ) → OneOf y (conditions_from mask 0 xs)
      → (c : ℕ) × (c < length xs) × (y ≡ asks mask xs c)
  some_section y xs among = let (c, h, same) = conditions_asked y 0 xs among in (c, h, rw (zero-add c) at same)

  pub section_one : (xs : List ℕ) (c : ℕ) → c < length xs → OneOf (asks mask xs c) (conditions_from mask 0 xs)
  section_one xs c h = rw (zero-add c) at (asked_conditions 0 xs c h)

zeros : (m t : ℕ) → get_or (replicate {A = ℕ} m 0) t 0 ≡ 0
zeros zero t = refl
zeros (suc m) zero = refl
zeros (suc m) (suc t) = zeros m t

-- what a section asks for: its turn, and the section whose turn that is
-- a condition asks for its own section, or for nothing
channel_most : (mask c x : ℕ) → (condition mask c x).channel ≤ c
channel_most mask c x = go (eqb x 2) (eqb x 1) refl refl
  where
    go : (failed degraded : Bool) → eqb x 2 ≡ failed → eqb x 1 ≡ degraded → (condition mask c x).channel ≤ c
    go true degraded e f = rw e (omega arith)
    go false true e f = rw (e, f) (omega arith)
    go false false e f = rw (e, f) zero-le

module _ (mask : ℕ) (conditions : List ℕ) (last : Request) where
  abbrev asks_at : ℕ → Request
  asks_at c = asks mask conditions c

  abbrev turn_at : ℕ → ℕ
  turn_at c = turn last (asks_at c)

  channel_at : (c : ℕ) → 0 < rank_of_request (asks_at c) → (asks_at c).channel ≡ c
  channel_at c = own_channel mask c (get_or conditions c 0)

  -- sections have turns of their own
  pub apart : (i c : ℕ) → 0 < rank_of_request (asks_at i) → 0 < rank_of_request (asks_at c) → turn_at i ≡ turn_at c → i ≡ c
  apart i c some some' h =
      sym (channel_at i some) ∙ turn_own last (asks_at i) (asks_at c) h ∙ channel_at c some'

  -- and none comes later than behind the sections before it
  pub turn_within : (c : ℕ) → turn_at c ≤ c + 1
  turn_within c = go (turn_cases last (asks_at c)) (channel_most mask c (get_or conditions c 0))
    where
      go : Turns last (asks_at c) → (asks_at c).channel ≤ c → turn_at c ≤ c + 1
      go (inl (t, on-0)) most = omega arith
      go (inr (inl (t, is, on))) most = omega arith
      go (inr (inr (t, on))) most = omega arith

  section_back : (c : ℕ) → 0 < rank_of_request (asks_at c) → section_at last (turn_at c) ≡ c
  section_back c some = go (turn_cases last (asks_at c))
    where
      own : (asks_at c).channel ≡ c
      own = channel_at c some

      go : Turns last (asks_at c) → section_at last (turn_at c) ≡ c
      go (inl (t, on-0)) = rw t (sym on-0 ∙ own)
      go (inr (inl (t, is, on))) = rw t (ap (λ (r : Request). r.channel) (sym is) ∙ own)
      go (inr (inr (t, on))) = rw t (rw (ne_eqb ((asks_at c).channel + 1) 1 (omega arith)) (omega (arith, own)))

  pub none_ranked : Ranked mask conditions last (replicate 16 0) 0 0
  none_ranked =
      record {
        rank_is = λ i h. absurd (not-suc-le-zero h);
        looked_at = λ i h. absurd (not-suc-le-zero h);
        section_is = λ t h. absurd (not-suc-le-zero (rw (zeros 16 t) at h));
        within = zero-le;
      }

  module _ (ranks : List ℕ) (c past_last : ℕ) (before : Ranked mask conditions last ranks c past_last) where
    -- section c asks for nothing
    pub silent_ranked : rank_of_request (asks_at c) ≡ 0 → Ranked mask conditions last ranks (c + 1) past_last
    silent_ranked silent =
        record {
          rank_is = λ i h some. before.rank_is i (earlier i h some) some;
          looked_at = λ i h some. before.looked_at i (earlier i h some) some;
          section_is = λ t some. let held = before.section_is t some in (omega arith, held.1);
          within = let inside = before.within in omega arith;
        }
      where
        earlier : (i : ℕ) → i < c + 1 → 0 < rank_of_request (asks_at i) → i < c
        earlier i h some = go (eqb i c) refl
          where
            go : (t : Bool) → eqb i c ≡ t → i < c
            go true e =
                let zero : rank_of_request (asks_at i) ≡ 0 = rw (eqb-true i c e) silent in
                absurd (omega arith)
            go false e = let other = eqb-false i c e in omega arith

    -- section c asks, and its rank is stored at its turn
    module _ (some : 0 < rank_of_request (asks_at c)) (room : turn_at c < length ranks) (past : ℕ)
        (later : past_last ≤ past) (behind : turn_at c + 1 ≤ past) (bound : past ≤ c + 2) where
      abbrev stored : List ℕ
      stored = set ranks (turn_at c) (rank_of_request (asks_at c))

      pub asking_ranked : Ranked mask conditions last stored (c + 1) past
      asking_ranked =
          record {
            rank_is = λ i h ask. rank_next i h ask (eqb i c) refl;
            looked_at = λ i h ask. looked_next i h ask (eqb i c) refl;
            section_is = λ t held. section_next t held (eqb t (turn_at c)) refl;
            within = omega arith;
          }
        where
          rank_next : (i : ℕ) → i < c + 1 → 0 < rank_of_request (asks_at i) → (t : Bool) → eqb i c ≡ t
              → get_or stored (turn_at i) 0 ≡ rank_of_request (asks_at i)
          rank_next i h ask true e =
              rw (eqb-true i c e) (get_or-set_same ranks (turn_at c) (rank_of_request (asks_at c)) 0 room)
          rank_next i h ask false e =
              let other : i ≡ c → ⊥ = eqb-false i c e in
              get_or-set_other ranks (turn_at c) (turn_at i) (rank_of_request (asks_at c)) 0 (λ same. other (apart i c ask some same))
              ∙ before.rank_is i (omega arith) ask

          looked_next : (i : ℕ) → i < c + 1 → 0 < rank_of_request (asks_at i) → (t : Bool) → eqb i c ≡ t → turn_at i < past
          looked_next i h ask true e = rw (eqb-true i c e) (omega arith)
          looked_next i h ask false e =
              let other : i ≡ c → ⊥ = eqb-false i c e in
              let looked = before.looked_at i (omega arith) ask in
              omega arith

          section_next : (t : ℕ) → 0 < get_or stored t 0 → (z : Bool) → eqb t (turn_at c) ≡ z
              → (section_at last t < c + 1) × AtTurn mask conditions last (get_or stored t 0) t
          section_next t held true e =
              let back = section_back c some in
              rw (eqb-true t (turn_at c) e, get_or-set_same ranks (turn_at c) (rank_of_request (asks_at c)) 0 room) (
                omega arith,
                record { own_turn = ap turn_at back; own_rank = ap (λ (k : ℕ). rank_of_request (asks_at k)) back },
              )
          section_next t held false e =
              let same = get_or-set_other ranks (turn_at c) t (rank_of_request (asks_at c)) 0 (eqb-false t (turn_at c) e) in
              let kept = before.section_is t (rw same at held) in
              rw same (omega arith, kept.1)

  -- a rank that was laid out at its turn, or none
  pub laid_ranked : (x : Request) (ranks laid : List ℕ) (c past_last past : ℕ)
      → Ranked mask conditions last ranks c past_last → length ranks ≡ 16 → c ≤ 14 → x ≡ asks_at c
      → Laid last x ranks past_last laid past → Ranked mask conditions last laid (c + 1) past × (length laid ≡ 16)
  laid_ranked x ranks laid c past_last past before long few is (inl (none, same, stays)) =
      rw (same, stays) (silent_ranked ranks c past_last before (rw (← is) none), long)
  laid_ranked x ranks laid c past_last past before long few is (inr (some, stored, later, behind, which)) =
      let asks_some : 0 < rank_of_request (asks_at c) = rw (← is) some in
      let early = turn_within c in
      let inside = before.within in
      let at : turn last x ≡ turn_at c = ap (turn last) is in
      let bound : past ≤ c + 2 = ⊎_elim (λ e. omega arith) (λ e. omega arith) which in (
        rw (stored, is)
            (asking_ranked ranks c past_last before asks_some (omega arith) past later (rw (← is) behind) bound),
        rw stored (length-set ranks (turn last x) (rank_of_request x) ∙ long),
      )
