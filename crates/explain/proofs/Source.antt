-- Where a local request comes from: the closed form holds of it by its source, whatever the conditions and the command are.
use mathlib.Core.Path.{◌≡◌, refl, sym, ap, subst, ◌∙◌}
use mathlib.Core.Bool.{Bool, true, false, ◌&&◌, ◌||◌, false≢true, true≢false}
use mathlib.Core.List.{List, ◌∷◌}
use mathlib.Core.Logic.{◌⊎◌, inl, inr, ⊎_elim}
use Prim.Native.Nat.{ℕ, ◌+◌, ◌≤◌, ◌<◌}
use native.Mathlib.Omega.{arith}
use lib.Dec.{ltb, eqb, lit<}
use lib.ListN.{get_or, drop}
use borrow.Author.Tests.{ltb-true, ltb-false, eqb-true, eqb-false, le-leb, eq-eqb}
use Rattle.std.specs.Prelude.{if◌then◌else◌}
use Rattle.pair.specs.Request.{requests, channel_0, a_section, rank_in, rank_of}
use Rattle.request.specs.Order.{by_turn, OneOf}
use Rattle.request.specs.declared.Request.{Request}
use Rattle.std.proofs.lemmas.Bool.{or_right}
use Rattle.request.proofs.FirstCome.{turn_orders}
use Rattle.controller.specs.Settings.{high}
use Rattle.controller.specs.Rules.{no_request, rank_of_request, is_command, held, is_clear, given, replaces_held, fail_code, degrade_code}
use Rattle.controller.specs.Rules.{condition, conditions_from, waiting}
use Rattle.controller.specs.Step.{protection}
use Rattle.controller.proofs.Apart.{none_rank, command_cases, held_kind, given_kind}
use Rattle.controller.proofs.Ranking.{section_rank}
use Rattle.controller.proofs.Candidates.{candidate_split, local_one, local_above}
use Rattle.controller.proofs.Sections.{conditions_asked}
use Rattle.explain.specs.Cause.{commanded, conditioned, waited, arises, unseen}
use Rattle.explain.proofs.Ranking.{rank_cases, fail_rank}
use Rattle.explain.proofs.Local.{stands_of, now_of, wait_unclear, near_of, Local, wait_below}
use Rattle.explain.proofs.Commands.{commanded_by, commanded_of}

-- of the four parts of the closed form one is enough
pub one_part : (a b c d : Bool) → (a ≡ true) ⊎ (b ≡ true) ⊎ (c ≡ true) ⊎ (d ≡ true) → a || b || c || d ≡ true
one_part true b c d h = refl
one_part false true c d h = refl
one_part false false true d h = refl
one_part false false false d (inl e) = absurd (false≢true e)
one_part false false false d (inr (inl e)) = absurd (false≢true e)
one_part false false false d (inr (inr (inl e))) = absurd (false≢true e)
one_part false false false d (inr (inr (inr e))) = e

lockout_part : (a b c d : Bool) → a ≡ true → c ≡ true → d ≡ true → a && (b || c && d) ≡ true
lockout_part a b c d e f g = rw (e, f, g) (or_right b true refl)

module _ (mask w left : ℕ) (last : Request) where
  abbrev ByCommand : Request → Type 0
  ByCommand x = (x ≡ no_request) ⊎ (commanded (held last) (held x) ≡ true)

  stands_source : (command c : ℕ) → ByCommand (stands_of mask w left last command c)
  unfolding rank_of rank_in
  stands_source command c = go (is_clear command) refl
    where
      new : Request
      new = given command c

      chosen : (t : Bool) → replaces_held (held last) new ≡ t → ByCommand (if t then new else held last)
      chosen true e = ⊎_elim (λ is. inr (commanded_of (held last) new is (inr e))) inl (given_kind command c)
      chosen false e =
          ⊎_elim (λ is. inr (commanded_of (held last) (held last) is (inl refl))) inl (held_kind last)

      go : (t : Bool) → is_clear command ≡ t → ByCommand (stands_of mask w left last command c)
      go true e = let one : command ≡ 1 = eqb-true command 1 e in inl (rw one)
      go false e = rw e (chosen (replaces_held (held last) new) refl)

  abbrev BySection : Request → Type 0
  BySection x = (x ≡ no_request) ⊎ (conditioned mask x ≡ true)

  -- but the failed section 0
  section_source : (c v : ℕ) → (eqb v 2 ≡ false) ⊎ (1 ≤ c) → BySection (condition mask c v)
  section_source c v good = go (eqb v 2) (eqb v 1) refl refl good
    where
      go : (failed degraded : Bool) → eqb v 2 ≡ failed → eqb v 1 ≡ degraded → (eqb v 2 ≡ false) ⊎ (1 ≤ c)
          → BySection (condition mask c v)
      go true degraded e f (inl h) = absurd (true≢false (sym e ∙ h))
      go true degraded e f (inr h) =
          rw e
          (inr
          (rw (le-leb 1 c h, eq-eqb (fail_code (high mask c)) (fail_code (high mask c)) refl)
          (or_right (eqb (fail_code (high mask c)) (degrade_code (high mask c))) true refl)))
      go false true e f h = rw (e, f) (inr (rw (eq-eqb (degrade_code (high mask c)) (degrade_code (high mask c)) refl)))
      go false false e f h = rw (e, f) (inl refl)

  abbrev ByWait : Request → Type 0
  ByWait x = (x ≡ no_request) ⊎ (waited (now_of mask w left last 0) last x ≡ true)

  wait_source : (command : ℕ) → ByWait (waiting (now_of mask w left last command) last)
  wait_source command = go (ltb 0 (now_of mask w left last command)) refl
    where
      go : (t : Bool) → ltb 0 (now_of mask w left last command) ≡ t
          → ByWait (waiting (now_of mask w left last command) last)
      go true e =
          let some = ltb-true 0 (now_of mask w left last command) e in
          let same = wait_unclear mask w left last command some in
          let runs : 1 ≤ now_of mask w left last 0 = omega arith in
          rw e (inr (rw (eq-eqb last.channel last.channel refl, le-leb 1 (now_of mask w left last 0) runs)))
      go false e = rw e (inl refl)

  -- the source of a local request: none, the command, section 0, a section, the wait
  module _ (conditions : List ℕ) (command c : ℕ) where
    abbrev near : Request
    near = near_of mask w left last conditions command c

    abbrev stands : Request
    stands = stands_of mask w left last command c

    abbrev wait : Request
    wait = waiting (now_of mask w left last command) last

    abbrev Source : Request → Type 0
    Source x =
        (x ≡ no_request)
        ⊎ (x ≡ stands)
        ⊎ (x ≡ condition mask 0 (protection conditions))
        ⊎ ((i : ℕ) × (v : ℕ) × (1 ≤ i) × (x ≡ condition mask i v))
        ⊎ (x ≡ wait)

    source : Source near
    source =
        ⊎_elim inl
        (λ among. go (candidate_split mask (protection conditions) (drop 1 conditions) stands wait near among))
        (local_one mask (protection conditions) (drop 1 conditions) stands wait last)
      where
        go : (near ≡ stands) ⊎ OneOf near (conditions_from mask 0 (protection conditions ∷ drop 1 conditions)) ⊎ (near ≡ wait)
            → Source near
        go (inl e) = inr (inl e)
        go (inr (inl (inl e))) = inr (inr (inl e))
        go (inr (inl (inr later))) =
            let (k, within, e) = conditions_asked mask near 1 (drop 1 conditions) later in
            inr (inr (inr (inl (1 + k, get_or (drop 1 conditions) k 0, omega arith, e))))
        go (inr (inr e)) = inr (inr (inr (inr e)))

    abbrev Part : Request → Type 0
    Part x =
        (eqb x.code 0b0000 ≡ true)
        ⊎ (commanded (held last) (held x) ≡ true)
        ⊎ (conditioned mask x ≡ true)
        ⊎ (waited (now_of mask w left last 0) last x ≡ true)

    none_part : (x : Request) → x ≡ no_request → Part x
    none_part x e = inl (rw e)

    part : eqb (protection conditions) 2 ≡ false → (x : Request) → Source x → Part x
    part good x (inl e) = none_part x e
    part good x (inr (inl e)) =
        ⊎_elim (none_part x) (λ h. inr (inl h)) (subst ByCommand (sym e) (stands_source command c))
    part good x (inr (inr (inl e))) =
        ⊎_elim (none_part x) (λ h. inr (inr (inl h)))
        (subst BySection (sym e) (section_source 0 (protection conditions) (inl good)))
    part good x (inr (inr (inr (inl (i, v, h, e))))) =
        ⊎_elim (none_part x) (λ k. inr (inr (inl k))) (subst BySection (sym e) (section_source i v (inr h)))
    part good x (inr (inr (inr (inr e)))) =
        ⊎_elim (none_part x) (λ h. inr (inr (inr h))) (subst ByWait (sym e) (wait_source command))

  pub local_arises : (n : ℕ) (x : Request) → Local mask w left last n false x
      → arises mask (commanded (held last) (held x)) (now_of mask w left last 0) last x ≡ true
  unfolding arises
  local_arises n x (cause, made) =
      one_part (eqb x.code 0b0000) (commanded (held last) (held x)) (conditioned mask x)
      (waited (now_of mask w left last 0) last x)
      (part cause.conditions cause.command cause.channel made.protects x
      (subst (Source cause.conditions cause.command cause.channel) made.near
      (source cause.conditions cause.command cause.channel)))

  -- below SF0: every condition of a section
  section_low : (c v : ℕ) → 1 ≤ c → rank_of_request (condition mask c v) < 9
  unfolding rank_in
  section_low c v h = go (eqb v 2) (eqb v 1) refl refl
    where
      low : (is_high : Bool) → rank_of (degrade_code is_high) c < 9
      low true = rank_cases (λ (k : ℕ). k < 9) 0b1011 c (lit< tt) (lit< tt)
      low false = rank_cases (λ (k : ℕ). k < 9) 0b1010 c (lit< tt) (lit< tt)

      go : (failed degraded : Bool) → eqb v 2 ≡ failed → eqb v 1 ≡ degraded → rank_of_request (condition mask c v) < 9
      go true degraded e f = rw e (fail_rank (high mask c) c h).1
      go false true e f = rw (e, f) (low (high mask c))
      go false false e f = rw (e, f) (rw none_rank (lit< tt))

  -- of the commands LO alone is above SF0
  top_command : (x : Request) → is_command x.code ≡ true → 9 ≤ rank_of_request x → (x.code ≡ 0b1111) × (x.channel ≡ 0)
  unfolding rank_in
  top_command x h high = which (command_cases x.code h)
    where
      low : (code : ℕ) → x.code ≡ code → rank_in requests channel_0 code < 9 → rank_in requests a_section code < 9
          → (x.code ≡ 0b1111) × (x.channel ≡ 0)
      low code e zero some =
          let below : rank_of_request x < 9 = rw e (rank_cases (λ (k : ℕ). k < 9) code x.channel zero some) in
          absurd (omega arith)

      lock_out : x.code ≡ 0b1111 → (x.code ≡ 0b1111) × (x.channel ≡ 0)
      lock_out e = go (eqb x.channel 0) refl
        where
          go : (t : Bool) → eqb x.channel 0 ≡ t → (x.code ≡ 0b1111) × (x.channel ≡ 0)
          go true z = (e, eqb-true x.channel 0 z)
          go false z =
              let some = eqb-false x.channel 0 z in
              let none : rank_of_request x ≡ 0 = rw e (section_rank 0b1111 x.channel (omega arith)) in
              absurd (omega arith)

      which : (x.code ≡ 0b1111) ⊎ (x.code ≡ 0b1110) ⊎ (x.code ≡ 0b1000) → (x.code ≡ 0b1111) × (x.channel ≡ 0)
      which (inl lo) = lock_out lo
      which (inr (inl fs)) = low 0b1110 fs (lit< tt) (lit< tt)
      which (inr (inr ms)) = low 0b1000 ms (lit< tt) (lit< tt)

  low_none : (x : Request) → 9 ≤ rank_of_request x → x ≡ no_request → unseen (commanded (held last) (held x)) x ≡ true
  low_none x high e = let none : rank_of_request x ≡ 0 = rw e none_rank in absurd (omega arith)

  module _ (conditions : List ℕ) (command c : ℕ) (failed : protection conditions ≡ 2) where
    abbrev found : Request
    found = near_of mask w left last conditions command c

    -- SF0 is a candidate, so that nothing below it is found
    least : 9 ≤ rank_of_request found
    unfolding rank_of rank_in
    least = go (ltb (rank_of_request found) 9) refl
      where
        go : (t : Bool) → ltb (rank_of_request found) 9 ≡ t → 9 ≤ rank_of_request found
        go true e =
            let all =
            local_above mask (protection conditions) (drop 1 conditions) (stands_of mask w left last command c)
            (waiting (now_of mask w left last command) last) last in
            let wins = (turn_orders rank_of last).higher (condition mask 0 2) found (ltb-true (rank_of_request found) 9 e) in
            let loses = all (condition mask 0 (protection conditions)) (inr (inl refl)) in
            absurd (true≢false (sym wins ∙ ap (λ (v : ℕ). by_turn rank_of last (condition mask 0 v) found) (sym failed) ∙ loses))
        go false e = ltb-false (rank_of_request found) 9 e

    hidden : (x : Request) → 9 ≤ rank_of_request x → Source conditions command c x → unseen (commanded (held last) (held x)) x ≡ true
    unfolding unseen
    hidden x high (inl e) = low_none x high e
    hidden x high (inr (inl e)) =
        ⊎_elim (low_none x high)
        (λ h.
        let is = (commanded_by (held last) x h).0 in
        let top = top_command x is high in
        lockout_part (eqb x.channel 0) (eqb x.code 0b1101) (eqb x.code 0b1111)
        (commanded (held last) (held x)) (eq-eqb x.channel 0 top.1) (eq-eqb x.code 0b1111 top.0) h)
        (subst ByCommand (sym e) (stands_source command c))
    hidden x high (inr (inr (inl e))) =
        let is : x ≡ condition mask 0 2 = e ∙ ap (condition mask 0) failed in
        rw is
    hidden x high (inr (inr (inr (inl (i, v, h, e))))) =
        let low : rank_of_request x < 9 = rw e (section_low i v h) in
        absurd (omega arith)
    hidden x high (inr (inr (inr (inr e)))) =
        let low : rank_of_request x ≤ 2 = rw e (wait_below mask w left last (now_of mask w left last command)) in
        absurd (omega arith)

  pub local_unseen : (n : ℕ) (x : Request) → Local mask w left last n true x → unseen (commanded (held last) (held x)) x ≡ true
  local_unseen n x (cause, made) =
      let failed = eqb-true (protection cause.conditions) 2 made.protects in
      subst (λ (y : Request). unseen (commanded (held last) (held y)) y ≡ true) made.near
      (hidden cause.conditions cause.command cause.channel failed
      (near_of mask w left last cause.conditions cause.command cause.channel)
      (least cause.conditions cause.command cause.channel failed)
      (source cause.conditions cause.command cause.channel))
