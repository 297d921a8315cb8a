-- One step: the closed form holds of what is sent exactly if some cause makes the controller send it, and then the cause that
-- is shown does; with the command held before the step and the one held after it set apart, for every n and mask.
use mathlib.Core.Path.{◌≡◌, refl, sym, ap, subst, ◌∙◌}
use mathlib.Core.Bool.{Bool, true, false, not, ◌&&◌, and-eq-true_iff, false≢true}
use mathlib.Core.Logic.{◌↔◌, ◌⊎◌, inl, ⊎_elim}
use Prim.Native.Nat.{ℕ, suc}
use lib.Dec.{eqb}
use borrow.Author.Tests.{ltb-true, eqb-true, eq-eqb, not-true}
use Rattle.pair.specs.Request.{requests, carries, rank_of}
use Rattle.pair.proofs.Rows.{carried_within}
use Rattle.request.specs.Order.{may_win, by_rank}
use Rattle.request.specs.declared.Request.{Request}
use Rattle.request.proofs.Order.{rank_orders}
use Rattle.std.proofs.lemmas.Bool.{or_cases, or_right}
use Rattle.controller.specs.Rules.{no_request, rank_of_request, held, decided}
use Rattle.controller.specs.Step.{protection}
use Rattle.controller.proofs.Candidates.{none_loses}
use Rattle.explain.specs.Explained.{Cause}
use Rattle.explain.specs.Cause.{commanded, arises, unseen, answers, only}
use Rattle.explain.proofs.Local.{Fits, now_of, near_of, Makes, Local}
use Rattle.explain.proofs.Witness.{shown, clearing, near_below, reverse_makes, arises_makes, unseen_makes}
use Rattle.explain.proofs.Source.{local_arises, local_unseen}

module _ (n mask w left : ℕ) (last : Request) where
  -- this cause, with section 0 failed or not and `far` accepted, makes the controller send x; prior is the command held before
  -- the step, and after the one held after it
  pub record CausedBy (failed : Bool) (far prior after x : Request) (cause : Cause) : Type 0 where
    pub fits : Fits n cause.conditions cause.command cause.channel
    pub protects : eqb (protection cause.conditions) 2 ≡ failed
    pub before : prior ≡ held last
    pub sends : decided far (near_of mask w left last cause.conditions cause.command cause.channel) ≡ x
    pub afterwards : after ≡ held x

  -- some cause does
  abbrev pub Caused : Bool → Request → Request → Request → Request → Type 0
  Caused failed far prior after x = (cause : Cause) × CausedBy failed far prior after x cause

  -- section 0 not failed: RR to a better request of the far end, or a local request that it does not beat
  pub record Open (far prior after x : Request) : Type 0 where
    pub before : prior ≡ held last
    pub possible : answers far x (arises mask (commanded prior after) (now_of mask w left last 0) last x) ≡ true
    pub afterwards : after ≡ held x

  -- section 0 failed, and 00 08 accepted
  pub record Hidden (prior after x : Request) : Type 0 where
    pub before : prior ≡ held last
    pub possible : unseen (commanded prior after) x ≡ true
    pub afterwards : after ≡ held x

  -- the cause that is shown, for what the far end asks
  abbrev pub shown_by : Bool → Request → Bool → Request → Cause
  shown_by = shown mask w left last n

  decided_by : {failed : Bool} {x near : Request} {cause : Cause} (far : Request) → Makes mask w left last n failed cause near
      → decided far near ≡ x → CausedBy failed far (held last) (held x) x cause
  decided_by far made e =
      record {
        fits = made.fits;
        protects = made.protects;
        before = refl;
        sends = ap (decided far) made.near ∙ e;
        afterwards = refl;
      }

  local_in_lem : {failed : Bool} {far prior after x : Request} (by : Caused failed far prior after x)
      → Local mask w left last n failed (near_of mask w left last by.0.conditions by.0.command by.0.channel)
  local_in_lem (cause, by) = (cause, record { fits = by.fits; protects = by.protects; near = refl })

  abbrev local_of : Request → Bool
  local_of x = arises mask (commanded (held last) (held x)) (now_of mask w left last 0) last x

  abbrev reversed : Request → Request → Bool
  reversed far x = eqb x.code 0b0010 && may_win (rank_of_request far) && eqb far.channel x.channel

  -- the decision, from what is known of the local request
  answer_of : (far near : Request) → local_of near ≡ true →
      let x = decided far near in
      answers far x (local_of x) ≡ true
  unfolding answers
  answer_of far near local = go (by_rank rank_of far near) refl
    where
      go : (t : Bool) → by_rank rank_of far near ≡ t →
          let x = decided far near in
          answers far x (local_of x) ≡ true
      go true e =
          let may = ((and-eq-true_iff (may_win (rank_of_request far)) _).0 e).0 in
          rw e (rw (may, eq-eqb far.channel far.channel refl))
      go false e = rw e (rw (local, e) (or_right (reversed far near) true refl))

  -- RR, under the cause that is shown
  reverse_caused : (hold : Bool) (far x : Request) → carries requests n x.code x.channel ≡ true → x.code ≡ 0b0010
      → far.channel ≡ x.channel → may_win (rank_of_request far) ≡ true
      → CausedBy false far (held last) (held x) x (shown_by hold far false x)
  reverse_caused hold far x carried code channel may =
      let c = x.channel in
      let some = ltb-true 0 (rank_of_request far) may in
      let within = carried_within requests n x.code c carried in
      let better =
      (rank_orders rank_of).higher far (near_of mask w left last (only (suc n) c 0) (clearing mask w left last hold (rank_of_request far)) 0)
      (near_below mask w left last n hold c far within some) in
      let made = reverse_makes mask w left last n hold far x code in
      decided_by far made (rw better (λ i. record { code = sym code i; channel = channel i }))

  -- `shows` is what the cause is read from: what the far end asks, or anything, where that cannot win
  open_caused : (hold : Bool) (far shows x : Request) → (far ≡ shows) ⊎ (may_win (rank_of_request far) ≡ false)
      → carries requests n x.code x.channel ≡ true → answers far x (local_of x) ≡ true
      → CausedBy false far (held last) (held x) x (shown_by hold shows false x)
  unfolding answers
  open_caused hold far shows x which carried h =
      ⊎_elim
      (λ reverses.
      let two = (and-eq-true_iff (eqb x.code 0b0010 && may_win (rank_of_request far)) (eqb far.channel x.channel)).0 reverses in
      let one = (and-eq-true_iff (eqb x.code 0b0010) (may_win (rank_of_request far))).0 two.0 in
      let code : x.code ≡ 0b0010 = eqb-true x.code 0b0010 one.0 in
      let channel : far.channel ≡ x.channel = eqb-true far.channel x.channel two.1 in
      let same : far ≡ shows = ⊎_elim (λ e. e) (λ no. absurd (false≢true (sym no ∙ one.1))) which in
      subst (λ (y : Request). CausedBy false far (held last) (held x) x (shown_by hold y false x)) same
      (reverse_caused hold far x carried code channel one.1))
      (λ local.
      let both = (and-eq-true_iff (local_of x) (not (by_rank rank_of far x))).0 local in
      decided_by far (arises_makes mask w left last n hold shows x carried both.0)
      (rw (not-true (by_rank rank_of far x) both.1)))
      (or_cases (reversed far x) (local_of x && not (by_rank rank_of far x)) h)

  -- and under a failed section 0, when the far end asks for nothing
  hidden_caused : (hold : Bool) (shows x : Request) → carries requests n x.code x.channel ≡ true
      → unseen (commanded (held last) (held x)) x ≡ true
      → CausedBy true no_request (held last) (held x) x (shown_by hold shows true x)
  hidden_caused hold shows x carried h = decided_by no_request (unseen_makes mask w left last n hold shows x carried h) (none_loses x)

  -- the closed form, so the cause that is shown
  pub open_shown : (hold : Bool) (far shows prior after x : Request) → (far ≡ shows) ⊎ (may_win (rank_of_request far) ≡ false)
      → carries requests n x.code x.channel ≡ true → Open far prior after x
      → CausedBy false far prior after x (shown_by hold shows false x)
  open_shown hold far shows prior after x which carried o =
      rw (o.before, o.afterwards) (open_caused hold far shows x which carried (rw (o.before, o.afterwards) at o.possible))

  pub hidden_shown : (hold : Bool) (shows prior after x : Request) → carries requests n x.code x.channel ≡ true
      → Hidden prior after x → CausedBy true no_request prior after x (shown_by hold shows true x)
  hidden_shown hold shows prior after x carried o =
      let possible : unseen (commanded (held last) (held x)) x ≡ true = rw (o.before, o.afterwards) at o.possible in
      rw (o.before, o.afterwards) (hidden_caused hold shows x carried possible)

  pub one_step : (far prior after x : Request) → carries requests n x.code x.channel ≡ true
      → Open far prior after x ↔ Caused false far prior after x
  one_step far prior after x carried = (forward, backward)
    where
      forward : Open far prior after x → Caused false far prior after x
      forward o = (shown_by false far false x, open_shown false far far prior after x (inl refl) carried o)

      backward : Caused false far prior after x → Open far prior after x
      backward (cause, by) =
          let near = near_of mask w left last cause.conditions cause.command cause.channel in
          let local = local_arises mask w left last n near (local_in_lem (cause, by)) in
          let possible = subst (λ (y : Request). answers far y (local_of y) ≡ true) by.sends (answer_of far near local) in
          record {
            before = by.before;
            possible = rw (by.before, by.afterwards) possible;
            afterwards = by.afterwards;
          }

  pub one_hidden_step : (prior after x : Request) → carries requests n x.code x.channel ≡ true
      → Hidden prior after x ↔ Caused true no_request prior after x
  one_hidden_step prior after x carried = (forward, backward)
    where
      forward : Hidden prior after x → Caused true no_request prior after x
      forward o = (shown_by false no_request true x, hidden_shown false no_request prior after x carried o)

      backward : Caused true no_request prior after x → Hidden prior after x
      backward (cause, by) =
          let near = near_of mask w left last cause.conditions cause.command cause.channel in
          let is : near ≡ x = sym (none_loses near) ∙ by.sends in
          let local = local_unseen mask w left last n near (local_in_lem (cause, by)) in
          let possible = subst (λ (y : Request). unseen (commanded (held last) (held y)) y ≡ true) is local in
          record {
            before = by.before;
            possible = rw (by.before, by.afterwards) possible;
            afterwards = by.afterwards;
          }
