-- Laws of 'better' and of 'best'. Those of 'best' hold for every order that is irreflexive and transitive, and what needs more
-- for all `Orders`.
use Rattle.std.proofs.lemmas.Bool.{or_cases, or_right}
use mathlib.Core.Path.{◌≡◌, refl, sym, ap, subst, ◌∙◌}
use mathlib.Core.Bool.{Bool, true, false, ◌&&◌, ◌||◌, and-eq-true_iff, true≢false}
use mathlib.Core.List.{List, [], ◌∷◌, ◌++◌}
use mathlib.Core.Logic.{◌⊎◌, inl, inr, ⊎_elim}
use mathlib.Mathlib.Data.Bool.Basic.{eq-false_of_not-eq-true}
use Prim.Native.Nat.{ℕ, ◌-◌, ◌<◌, ◌≤◌}
use native.Mathlib.Omega.{arith}
use lib.Dec.{ltb, eqb}
use borrow.Author.Tests.{ltb-true, ltb-false, eqb-true, eqb-false, lt-ltb, eq-eqb}
use Rattle.std.specs.Prelude.{if◌then◌else◌}
use Rattle.request.specs.Order.{may_win, better, by_rank, better_of, best, OneOf, Orders}
use Rattle.request.specs.declared.Request.{Request}

-- what the test 'better' says
abbrev Beats : ℕ → ℕ → ℕ → ℕ → Type 0
Beats r c s d = (0 < r) × ((s < r) ⊎ ((r ≡ s) × (c < d)))

beats : (r c s d : ℕ) → better r c s d ≡ true → Beats r c s d
beats r c s d h =
    let both = (and-eq-true_iff (may_win r) (ltb s r || eqb r s && ltb c d)).0 h in (
      ltb-true 0 r both.0,
      ⊎_elim (λ e. inl (ltb-true s r e))
          (λ e.
          let tie = (and-eq-true_iff (eqb r s) (ltb c d)).0 e in
          inr (eqb-true r s tie.0, ltb-true c d tie.1))
          (or_cases (ltb s r) (eqb r s && ltb c d) both.1),
    )

beaten : (r c s d : ℕ) → Beats r c s d → better r c s d ≡ true
beaten r c s d (wins, inl h) = rw (lt-ltb 0 r wins, lt-ltb s r h)
beaten r c s d (wins, inr (e, h)) =
    rw (lt-ltb 0 r wins, eq-eqb r s e, lt-ltb c d h) (or_right (ltb s r) true refl)

-- within a rank the higher number does not win
pub tie_lost : (r c s d : ℕ) → r ≡ s → d ≤ c → better r c s d ≡ false
tie_lost r c s d same above = eq-false_of_not-eq-true (λ h. no (beats r c s d h))
  where
    no : Beats r c s d → ⊥
    no (wins, inl h) = omega arith
    no (wins, inr (e, h)) = omega arith

pub better_irreflexive : (r c : ℕ) → better r c r c ≡ false
better_irreflexive r c = tie_lost r c r c refl (omega arith)

pub better_transitive : (r c s d t e : ℕ) → better r c s d ≡ true → better s d t e ≡ true → better r c t e ≡ true
better_transitive r c s d t e h k = beaten r c t e (join (beats r c s d h) (beats s d t e k))
  where
    join : Beats r c s d → Beats s d t e → Beats r c t e
    join (wins, inl a) (wins', inl b) = (wins, inl (omega arith))
    join (wins, inl a) (wins', inr (q, b)) = (wins, inl (omega arith))
    join (wins, inr (p, a)) (wins', inl b) = (wins, inl (omega arith))
    join (wins, inr (p, a)) (wins', inr (q, b)) = (wins, inr (omega arith, omega arith))

-- of two requests above rank 0 that differ in rank or channel one is better
pub better_total : (r c s d : ℕ) → 0 < r → 0 < s → ((r ≡ s) × (c ≡ d) → ⊥)
    → (better r c s d ≡ true) ⊎ (better s d r c ≡ true)
better_total r c s d h k differ = go (ltb s r) (ltb r s) (ltb c d) refl refl refl
  where
    go : (above below lower : Bool) → ltb s r ≡ above → ltb r s ≡ below → ltb c d ≡ lower
        → (better r c s d ≡ true) ⊎ (better s d r c ≡ true)
    go true below lower e f g = inl (beaten r c s d (h, inl (ltb-true s r e)))
    go false true lower e f g = inr (beaten s d r c (k, inl (ltb-true r s f)))
    go false false true e f g =
        let p = ltb-false s r e in
        let q = ltb-false r s f in
        inl (beaten r c s d (h, inr (omega arith, ltb-true c d g)))
    go false false false e f g =
        let p = ltb-false s r e in
        let q = ltb-false r s f in
        let same : r ≡ s = omega arith in
        let l = ltb-false c d g in
        let apart : c ≡ d → ⊥ = λ m. differ (same, m) in
        inr (beaten s d r c (k, inr (omega arith, omega arith)))

-- RR and NR, of rank 0, never win
pub never_wins : (c s d : ℕ) → better 0 c s d ≡ false
never_wins c s d = refl

-- what holds of both holds of the one that is chosen
pub choice_has : (P : Request → Type 0) (t : Bool) (a b : Request) → P a → P b → P (if t then a else b)
choice_has P true a b h k = h
choice_has P false a b h k = k

abbrev pub Each : (Request → Type 0) → List Request → Type 0
Each P [] = Unit {0}
Each P (x ∷ rest) = P x × Each P rest

pub each_append : (P : Request → Type 0) (xs ys : List Request) → Each P xs → Each P ys → Each P (xs ++ ys)
each_append P [] ys h k = k
each_append P (x ∷ xs) ys h k = (h.0, each_append P xs ys h.1 k)

-- one of two lists joined is one of the first or of the second
pub one_split : (x : Request) (xs ys : List Request) → OneOf x (xs ++ ys) → OneOf x xs ⊎ OneOf x ys
one_split x [] ys h = inr h
one_split x (y ∷ xs) ys (inl same) = inl (inl same)
one_split x (y ∷ xs) ys (inr among) = ⊎_elim (λ h. inl (inr h)) inr (one_split x xs ys among)

pub one_joined : (x : Request) (xs ys : List Request) → OneOf x xs ⊎ OneOf x ys → OneOf x (xs ++ ys)
one_joined x [] ys (inl h) = absurd h
one_joined x [] ys (inr h) = h
one_joined x (y ∷ xs) ys (inl (inl same)) = inl same
one_joined x (y ∷ xs) ys (inl (inr h)) = inr (one_joined x xs ys (inl h))
one_joined x (y ∷ xs) ys (inr h) = inr (one_joined x xs ys (inr h))

module _ (order : Request → Request → Bool) where
  -- the best is one of the candidates, or what stands if there is none
  pub best_one : (xs : List Request) (none : Request)
      → (best order none xs ≡ none) ⊎ OneOf (best order none xs) xs
  unfolding best
  best_one [] none = inl refl
  best_one (x ∷ xs) none = go (order x none) refl (best_one xs x) (best_one xs none)
    where
      go : (t : Bool) → order x none ≡ t
          → (best order x xs ≡ x) ⊎ OneOf (best order x xs) xs
          → (best order none xs ≡ none) ⊎ OneOf (best order none xs) xs
          → (best order none (x ∷ xs) ≡ none) ⊎ OneOf (best order none (x ∷ xs)) (x ∷ xs)
      go true e first rest =
          let same : best order none (x ∷ xs) ≡ best order x xs = rw e refl in
          inr (subst (λ (b : Request). (b ≡ x) ⊎ OneOf b xs) (sym same) first)
      go false e first (inl same) = rw e (inl same)
      go false e first (inr among) =
          let same : best order none (x ∷ xs) ≡ best order none xs = rw e refl in
          inr (inr (subst (λ (b : Request). OneOf b xs) (sym same) among))

  -- what holds of each candidate, and of what stands if there is none, holds of the best
  pub best_has : (P : Request → Type 0) (xs : List Request) (none : Request) → P none → Each P xs
      → P (best order none xs)
  unfolding best
  best_has P [] none h each = h
  best_has P (x ∷ xs) none h each =
      best_has P xs (better_of order x none) (choice_has P (order x none) x none each.0 h) each.1

  -- where no candidate is better, what stands if there is none stands
  best_stays : (xs : List Request) (none : Request) → ((y : Request) → OneOf y xs → order y none ≡ false)
      → best order none xs ≡ none
  unfolding best
  best_stays [] none beside = refl
  best_stays (y ∷ xs) none beside =
      rw (beside y (inl refl)) (best_stays xs none (λ z among. beside z (inr among)))

  module _ (irreflexive : (x : Request) → order x x ≡ false)
      (transitive : (x y z : Request) → order x y ≡ true → order y z ≡ true → order x z ≡ true) where
    -- what does not beat z does not beat what beats z
    not_above : (y x z : Request) → order y z ≡ false → order x z ≡ true → order y x ≡ false
    not_above y x z h k = eq-false_of_not-eq-true (λ t. true≢false (sym (transitive y x z t k) ∙ h))

    -- no candidate is better than the best, nor is what was not better than that which stands if there is none
    pub best_above : (xs : List Request) (none y : Request) → (order y none ≡ false) ⊎ OneOf y xs
        → order y (best order none xs) ≡ false
    unfolding best
    best_above [] none y (inl h) = h
    best_above [] none y (inr h) = absurd h
    best_above (x ∷ xs) none y h = best_above xs (better_of order x none) y (go (order x none) refl h)
      where
        go : (t : Bool) → order x none ≡ t → (order y none ≡ false) ⊎ OneOf y (x ∷ xs)
            → (order y (better_of order x none) ≡ false) ⊎ OneOf y xs
        go true e (inl k) = rw e (inl (not_above y x none k e))
        go false e (inl k) = rw e (inl k)
        go true e (inr (inl same)) = rw (e, same) (inl (irreflexive x))
        go false e (inr (inl same)) = rw (e, same) (inl e)
        go t e (inr (inr among)) = inr among

    -- the best is what stands if there is none, or beats it
    pub best_beats : (xs : List Request) (none : Request)
        → (best order none xs ≡ none) ⊎ (order (best order none xs) none ≡ true)
    unfolding best
    best_beats [] none = inl refl
    best_beats (x ∷ xs) none = go (order x none) refl (best_beats xs x) (best_beats xs none)
      where
        go : (t : Bool) → order x none ≡ t → (best order x xs ≡ x) ⊎ (order (best order x xs) x ≡ true)
            → (best order none xs ≡ none) ⊎ (order (best order none xs) none ≡ true)
            → (best order none (x ∷ xs) ≡ none) ⊎ (order (best order none (x ∷ xs)) none ≡ true)
        go true e (inl same) rest = rw (e, same) (inr e)
        go true e (inr beats) rest = rw e (inr (transitive (best order x xs) x none beats e))
        go false e first rest = rw e rest

    module _ (none x : Request) (above : order x none ≡ true) where
      -- a candidate that beats every other is the best
      pub best_top : (xs : List Request) → ((y : Request) → OneOf y xs → (y ≡ x) ⊎ (order x y ≡ true)) → OneOf x xs
          → best order none xs ≡ x
      best_top xs beats among =
          ⊎_elim
          (λ same. absurd (true≢false (sym above ∙ ap (order x) (sym same) ∙ best_above xs none x (inr among))))
          (λ one.
          ⊎_elim (λ same. same) (λ wins. absurd (true≢false (sym wins ∙ best_above xs none x (inr among))))
          (beats (best order none xs) one))
          (best_one xs none)

      abbrev Alone : List Request → Type 0
      Alone xs = (y : Request) → OneOf y xs → (y ≡ x) ⊎ (order y none ≡ false)

      beside : (y : Request) → (y ≡ x) ⊎ (order y none ≡ false) → order y x ≡ false
      beside y (inl same) = rw same (irreflexive x)
      beside y (inr k) = not_above y x none k above

      stays : (xs : List Request) → Alone xs → best order x xs ≡ x
      stays xs alone = best_stays xs x (λ y among. beside y (alone y among))

      -- a single candidate is the best, whatever stands beside it that cannot win
      pub best_single : (xs : List Request) → Alone xs → OneOf x xs → best order none xs ≡ x
      unfolding best
      best_single [] alone among = absurd among
      best_single (y ∷ xs) alone (inl same) = rw (← same, above) (stays xs (λ z among. alone z (inr among)))
      best_single (y ∷ xs) alone (inr among) =
          go (order y none) refl (alone y (inl refl)) (best_single xs (λ z one. alone z (inr one)) among)
        where
          go : (t : Bool) → order y none ≡ t → (y ≡ x) ⊎ (order y none ≡ false) → best order none xs ≡ x
              → best order none (y ∷ xs) ≡ x
          go true e (inl same) ih = rw (e, same) (stays xs (λ z one. alone z (inr one)))
          go true e (inr k) ih = absurd (true≢false (sym e ∙ k))
          go false e same ih = rw e ih

-- Asking rank by rank from the top: no candidate has a rank above the asked one.
abbrev pub NoneAbove : (Request → ℕ) → List Request → ℕ → Type 0
NoneAbove rank xs asked = (y : Request) → OneOf y xs → rank y ≤ asked

-- where no candidate has the asked rank, the next one may be asked for
pub next_asked : (rank : Request → ℕ) (xs : List Request) (asked : ℕ) → NoneAbove rank xs asked
    → ((y : Request) → OneOf y xs → rank y ≡ asked → ⊥) → NoneAbove rank xs (asked - 1)
next_asked rank xs asked above passed y one =
    let most = above y one in
    let other = passed y one in
    omega arith

module _ (rank : Request → ℕ) (order : Request → Request → Bool) (by : Orders rank order)
    (none : Request) (xs : List Request) (x : Request) (among : OneOf x xs) (some : rank none < rank x) where
  -- a candidate of the asked rank that comes before the others of this rank is the best
  pub best_asked : NoneAbove rank xs (rank x)
      → ((y : Request) → OneOf y xs → rank y ≡ rank x → (y ≡ x) ⊎ (order x y ≡ true))
      → best order none xs ≡ x
  best_asked above first =
      best_top order by.irreflexive by.transitive none x (by.higher x none some) xs
      (λ y one. beats y one (ltb (rank y) (rank x)) refl) among
    where
      beats : (y : Request) → OneOf y xs → (t : Bool) → ltb (rank y) (rank x) ≡ t → (y ≡ x) ⊎ (order x y ≡ true)
      beats y one true e = inr (by.higher x y (ltb-true (rank y) (rank x) e))
      beats y one false e =
          let least = ltb-false (rank y) (rank x) e in
          let most = above y one in
          first y one (omega arith)

  -- a candidate that no candidate beats is the best, as far as rank and channel go
  pub best_only : ((y : Request) → OneOf y xs → order y x ≡ false) →
      let found = best order none xs in (rank found ≡ rank x) × (found.channel ≡ x.channel)
  best_only unbeaten =
      ⊎_elim (λ same. absurd (true≢false (sym (by.higher x none some) ∙ ap (order x) (sym same) ∙ loses)))
      (λ one. go one (ltb (rank found) (rank x)) refl) (best_one order xs none)
    where
      found : Request
      found = best order none xs

      loses : order x found ≡ false
      loses = best_above order by.irreflexive by.transitive xs none x (inr among)

      go : OneOf found xs → (t : Bool) → ltb (rank found) (rank x) ≡ t
          → (rank found ≡ rank x) × (found.channel ≡ x.channel)
      go one true e = absurd (true≢false (sym (by.higher x found (ltb-true (rank found) (rank x) e)) ∙ loses))
      go one false e =
          let least = ltb-false (rank found) (rank x) e in
          let may = lt-ltb 0 (rank found) (omega arith) in
          ⊎_elim (λ h. absurd (true≢false (sym h ∙ unbeaten found one)))
          (⊎_elim (λ h. absurd (true≢false (sym h ∙ loses))) (λ both. both))
          (by.total found x may (lt-ltb 0 (rank x) (omega arith)))

-- where no rank is left there is no request
pub none_asked : (rank : Request → ℕ) (order : Request → Request → Bool) → Orders rank order
    → (none : Request) (xs : List Request) → NoneAbove rank xs 0 → best order none xs ≡ none
none_asked rank order by none xs above =
    best_stays order xs none (λ y one. by.never y none (let most = above y one in omega arith))

-- Orders by rank, and within a rank by a number, the lower one first: one that two requests share only if they have one
-- channel.
module _ (rank number : Request → ℕ) where
  abbrev order : Request → Request → Bool
  order x y = better (rank x) (number x) (rank y) (number y)

  pub by_number : ((x y : Request) → number x ≡ number y → x.channel ≡ y.channel) → Orders rank order
  by_number own =
      record {
        irreflexive = λ x. better_irreflexive (rank x) (number x);
        transitive = λ x y z. better_transitive (rank x) (number x) (rank y) (number y) (rank z) (number z);
        higher = λ x y h. beaten (rank x) (number x) (rank y) (number y) (omega arith, inl h);
        never = λ x y h. rw h;
        total = total;
      }
    where
      total : (x y : Request) → may_win (rank x) ≡ true → may_win (rank y) ≡ true
          → (order x y ≡ true) ⊎ (order y x ≡ true) ⊎ ((rank x ≡ rank y) × (x.channel ≡ y.channel))
      total x y h k = go (eqb (rank x) (rank y)) (eqb (number x) (number y)) refl refl
        where
          differ : ((rank x ≡ rank y) × (number x ≡ number y) → ⊥)
              → (order x y ≡ true) ⊎ (order y x ≡ true) ⊎ ((rank x ≡ rank y) × (x.channel ≡ y.channel))
          differ apart =
              ⊎_elim inl (λ after. inr (inl after))
              (better_total (rank x) (number x) (rank y) (number y) (ltb-true 0 (rank x) h) (ltb-true 0 (rank y) k) apart)

          go : (ranks numbers : Bool) → eqb (rank x) (rank y) ≡ ranks → eqb (number x) (number y) ≡ numbers
              → (order x y ≡ true) ⊎ (order y x ≡ true) ⊎ ((rank x ≡ rank y) × (x.channel ≡ y.channel))
          go true true e f =
              inr (inr (eqb-true (rank x) (rank y) e, own x y (eqb-true (number x) (number y) f)))
          go false numbers e f = differ (λ both. eqb-false (rank x) (rank y) e both.0)
          go true false e f = differ (λ both. eqb-false (number x) (number y) f both.1)

  -- within a rank the lower number comes first
  pub lower_first : (x y : Request) → 0 < rank x → rank y ≡ rank x → number x < number y → order x y ≡ true
  lower_first x y some same lower = beaten (rank x) (number x) (rank y) (number y) (some, inr (sym same, lower))

-- the order between the ends is one of them
pub rank_orders : (rank_of : ℕ → ℕ → ℕ) → Orders (λ (x : Request). rank_of x.code x.channel) (by_rank rank_of)
rank_orders rank_of =
    by_number (λ (x : Request). rank_of x.code x.channel) (λ (x : Request). x.channel) (λ x y h. h)
