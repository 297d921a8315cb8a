-- The cause that is shown makes what is sent the local request: at most one section is bad, and a clear is given where the held
-- command or the wait would be as loud as what decides.
use mathlib.Core.Path.{◌≡◌, refl, sym, ap, subst, ◌∙◌}
use mathlib.Core.Bool.{Bool, true, false, ◌&&◌, ◌||◌, and-eq-true_iff, false≢true, true≢false}
use mathlib.Core.List.{List}
use mathlib.Core.Logic.{◌⊎◌, inl, inr, ⊎_elim}
use Prim.Native.Nat.{ℕ, suc, ◌≤◌, ◌<◌, zero-le}
use native.Mathlib.Omega.{arith}
use lib.Dec.{ltb, leb, eqb, lit<, lit≤}
use lib.ListN.{drop}
use borrow.Author.Tests.{leb-true, leb-false, ltb-true, ltb-false, eqb-true, lt-ltb, le-ltb, eq-eqb, ne_eqb}
use Rattle.std.specs.Prelude.{if◌then◌else◌}
use Rattle.pair.specs.Request.{requests, carries, reverse_code, nothing_code, rank_in, rank_of}
use Rattle.pair.proofs.Rows.{held_in, carried_within}
use Rattle.request.specs.Order.{same}
use Rattle.request.specs.declared.Request.{Request}
use Rattle.std.proofs.lemmas.Bool.{or_cases, or_parts}
use Rattle.request.proofs.FirstCome.{same_one}
use Rattle.controller.specs.Settings.{high}
use Rattle.controller.specs.Rules.{no_request, rank_of_request, fail_code, degrade_code}
use Rattle.controller.specs.Rules.{is_command, held, replaces_held, condition}
use Rattle.controller.specs.Rules.{is_fail_or_degrade, is_wait, waiting}
use Rattle.controller.specs.Refusals.{channel_fits}
use Rattle.controller.specs.Step.{protection}
use Rattle.controller.proofs.Apart.{none_rank, command_cases}
use Rattle.controller.proofs.Ranking.{section_rank, on_section, on_protection}
use Rattle.controller.proofs.Candidates.{local_one}
use Rattle.explain.specs.Explained.{Cause}
use Rattle.explain.specs.Cause.{commanded, conditioned, waited, arises, unseen, only, bad_for, louder, deciding, command_number}
use Rattle.explain.specs.Cause.{command_for, channel_for, is_louder, cause_for}
use Rattle.explain.proofs.Ranking.{fail_rank, degrade_rank}
use Rattle.explain.proofs.Commands.{command_code, Command, a_command, commanded_by}
use Rattle.explain.proofs.Single.{only_good}
use Rattle.explain.proofs.Local as rules

module _ (mask w left : ℕ) (last : Request) where
  abbrev stands_of : ℕ → ℕ → Request
  stands_of = rules.stands_of mask w left last

  abbrev now_of : ℕ → ℕ
  now_of = rules.now_of mask w left last

  abbrev near_of : List ℕ → ℕ → ℕ → Request
  near_of = rules.near_of mask w left last

  abbrev Makes : ℕ → Bool → Cause → Request → Type 0
  Makes = rules.Makes mask w left last

  abbrev Under : Request → Request → Type 0
  Under = rules.Under mask w left last

  -- the cause that is shown
  abbrev pub shown : ℕ → Bool → Request → Bool → Request → Cause
  shown n hold far failed x = cause_for n hold mask (now_of 0) last far failed x

  -- Without a new command: a clear where the held command or the wait would be as loud as this rank.
  module _ (hold : Bool) (rank : ℕ) where
    abbrev loud : Bool
    loud = louder hold rank (rank_of_request (held last)) (now_of 0)

    abbrev pub clearing : ℕ
    clearing = if loud then 1 else 0

    -- then neither is
    abbrev Below : Request → Type 0
    Below y = (y ≡ no_request) ⊎ (rank_of_request y < rank)

    -- the held command goes on, if it has a rank
    held_stands : (t : Bool) → ltb 0 (rank_of_request (held last)) ≡ t
        → t && (hold || leb rank (rank_of_request (held last))) ≡ false → Below (stands_of 0 0)
    held_stands true some quiet =
        let has = ltb-true 0 (rank_of_request (held last)) some in
        let none : eqb (rank_of_request (held last)) 0 ≡ false = ne_eqb (rank_of_request (held last)) 0 (omega arith) in
        let below : ltb (rank_of_request (held last)) (rank_of_request no_request) ≡ false =
        le-ltb (rank_of_request (held last)) (rank_of_request no_request) (rw none_rank zero-le) in
        let less = leb-false rank (rank_of_request (held last)) (or_parts hold (leb rank (rank_of_request (held last))) quiet).1 in
        inr (rw (none, below) less)
    held_stands false none quiet =
        let zero : rank_of_request (held last) ≡ 0 =
        let most = ltb-false 0 (rank_of_request (held last)) none in
        omega arith in
        inl (rw zero)

    wait_stands : (t : Bool) → ltb 0 (now_of 0) ≡ t → t && leb rank 2 ≡ false → Below (waiting (now_of 0) last)
    wait_stands true some quiet =
        let low = rules.wait_below mask w left last (now_of 0) in
        let less = leb-false rank 2 quiet in
        inr (omega arith)
    wait_stands false none quiet = inl (rw none)

    pub quiet_below : Below (stands_of clearing 0) × Below (waiting (now_of clearing) last)
    quiet_below = go loud refl
      where
        go : (t : Bool) → loud ≡ t → Below (stands_of clearing 0) × Below (waiting (now_of clearing) last)
        go true e = rw e (inl (rules.clear_stands mask w left last), inl refl)
        go false e =
            let both =
            or_parts (ltb 0 (rank_of_request (held last)) && (hold || leb rank (rank_of_request (held last)))) (ltb 0 (now_of 0) && leb rank 2)
            e in
            rw e
            (held_stands (ltb 0 (rank_of_request (held last))) refl both.0, wait_stands (ltb 0 (now_of 0)) refl both.1)

    clearing_known : clearing ≤ 4
    clearing_known = go loud
      where
        go : (t : Bool) → (if t then 1 else 0) ≤ 4
        go true = lit≤ tt
        go false = zero-le

    clearing_fits : (n : ℕ) → channel_fits n clearing 0 ≡ true
    clearing_fits n = go loud
      where
        go : (t : Bool) → channel_fits n (if t then 1 else 0) 0 ≡ true
        go true = refl
        go false = refl

    abbrev quietly : ℕ → ℕ → ℕ → Cause
    quietly n c v = record { conditions = only (suc n) c v; command = clearing; channel = 0 }

    quiet_makes : (n c v : ℕ) (x : Request) → v ≤ 2 → near_of (only (suc n) c v) clearing 0 ≡ x
        → Makes n (eqb (protection (only (suc n) c v)) 2) (quietly n c v) x
    quiet_makes n c v x small near =
        record {
          fits = rules.fits_only mask w left last n clearing 0 c v small clearing_known (clearing_fits n);
          protects = refl;
          near = near;
        }

  -- a command that goes on, or a new one that takes the place of the held one
  pub record Gives (n command channel : ℕ) (x : Request) : Type 0 where
    pub known : command ≤ 4
    pub fits : channel_fits n command channel ≡ true
    pub stands : stands_of command channel ≡ x

  goes_on : (n : ℕ) (x : Request) → x ≡ held last → 0 < rank_of_request x → Gives n 0 0 x
  goes_on n x e some =
      let rank : rank_of_request (held last) ≡ rank_of_request x = ap rank_of_request (sym e) in
      let none : eqb (rank_of_request (held last)) 0 ≡ false = ne_eqb (rank_of_request (held last)) 0 (omega arith) in
      let below : ltb (rank_of_request (held last)) (rank_of_request no_request) ≡ false =
      le-ltb (rank_of_request (held last)) (rank_of_request no_request) (rw none_rank zero-le) in
      record { known = zero-le; fits = refl; stands = rw (none, below) (sym e) }

  -- a command that was held was last sent
  held_same : (x : Request) → is_command x.code ≡ true → x ≡ held last → same x last ≡ true
  held_same x is e = go (is_command last.code) refl
    where
      go : (t : Bool) → is_command last.code ≡ t → same x last ≡ true
      go true f =
          let it : x ≡ last = rw f at e in
          rw (
            eq-eqb x.code last.code (ap (λ (r : Request). r.code) it),
            eq-eqb x.channel last.channel (ap (λ (r : Request). r.channel) it),
          )
      go false f =
          let it : x ≡ no_request = rw f at e in
          absurd (false≢true (ap (λ (r : Request). is_command r.code) (sym it) ∙ is))

  -- the command that is shown, where one is sent: none, if it was last sent; else it is given
  pub by_command : (n : ℕ) (x : Request) → carries requests n x.code x.channel ≡ true
      → commanded (held last) (held x) ≡ true → (t : Bool)
      → Gives n (command_for last x t) (channel_for last x) x × (3 ≤ rank_of_request x)
  by_command n x carried h t = (go (same x last) refl, high)
    where
      by : (is_command x.code ≡ true) × ((x ≡ held last) ⊎ (replaces_held (held last) x ≡ true))
      by = commanded_by (held last) x h

      k : Command n x (command_number x.code)
      k = a_command n x carried by.0

      high : 3 ≤ rank_of_request x
      high = k.high

      some : eqb x.code nothing_code ≡ false
      some = command_code x.code by.0

      go : (u : Bool) → same x last ≡ u → Gives n (command_for last x t) (channel_for last x) x
      go true e =
          let it : x ≡ last = same_one x last e in
          let hold : x ≡ held last = subst (λ (y : Request). x ≡ held y) it (rw by.0) in
          let sent = k.high in
          rw by.0 (rw (some, e) (goes_on n x hold (omega arith)))
      go false e =
          let takes : replaces_held (held last) x ≡ true =
          ⊎_elim (λ is. absurd (false≢true (sym e ∙ held_same x by.0 is))) (λ is. is) by.1 in
          rw by.0
          (rw (some, e) record { known = k.known; fits = k.fits; stands = rw (k.other, k.new, takes) })

  command_makes : (n c v command channel : ℕ) (x : Request) → c ≤ n → Gives n command channel x → 3 ≤ rank_of_request x
      → v ≤ 2 → Under x (condition mask c v)
      → Makes n (eqb (protection (only (suc n) c v)) 2)
      record { conditions = only (suc n) c v; command = command; channel = channel } x
  command_makes n c v command channel x within g high small section =
      let low = rules.wait_below mask w left last (now_of command) in
      record {
        fits = rules.fits_only mask w left last n command channel c v small g.known g.fits;
        protects = refl;
        near =
            rules.near_top mask w left last n command channel c v within x (omega arith) (inl g.stands) section (inr (omega arith))
            (inl (sym g.stands));
      }

  -- while wait remains no command is held
  pub held_none : 1 ≤ now_of 0 → held last ≡ no_request
  held_none some = go (is_command last.code) refl
    where
      no : (code : ℕ) → last.code ≡ code → is_fail_or_degrade code ≡ false → is_wait code ≡ false → ⊥
      no code e fail wait = let none : 1 ≤ 0 = rw (e, fail, wait) at some in omega arith

      which : (last.code ≡ 0b1111) ⊎ (last.code ≡ 0b1110) ⊎ (last.code ≡ 0b1000) → ⊥
      which (inl lo) = no 0b1111 lo refl refl
      which (inr (inl fs)) = no 0b1110 fs refl refl
      which (inr (inr ms)) = no 0b1000 ms refl refl

      go : (t : Bool) → is_command last.code ≡ t → held last ≡ no_request
      go true e = absurd (which (command_cases last.code e))
      go false e = rw e

  -- no condition asks for a request of another code
  bad_none : (x : Request) → is_fail_or_degrade x.code ≡ false → bad_for mask x ≡ 0
  bad_none x other =
      let three = or_parts (eqb x.code 0b1101 || eqb x.code 0b1100 || eqb x.code 0b1011) (eqb x.code 0b1010) other in
      let two = or_parts (eqb x.code 0b1101 || eqb x.code 0b1100) (eqb x.code 0b1011) three.0 in
      let one = or_parts (eqb x.code 0b1101) (eqb x.code 0b1100) two.0 in
      go three.1 two.1 one.1 one.0 (high mask x.channel)
    where
      go : eqb x.code 0b1010 ≡ false → eqb x.code 0b1011 ≡ false → eqb x.code 0b1100 ≡ false
          → eqb x.code 0b1101 ≡ false → (is_high : Bool)
          → ◌≡◌ {A = ℕ}
          (if eqb x.code (degrade_code is_high) then 1 else if eqb x.code (fail_code is_high) then 2 else 0) 0
      go e f g h true = rw (f, h)
      go e f g h false = rw (e, g)

  -- the wait goes on by itself
  wait_makes : (n : ℕ) (hold : Bool) (far x : Request) → carries requests n x.code x.channel ≡ true
      → waited (now_of 0) last x ≡ true → Makes n false (shown n hold far false x) x
  unfolding rank_of rank_in held_in
  wait_makes n hold far x carried h =
      let remains = (and-eq-true_iff (is_wait x.code && eqb x.channel last.channel) (leb 1 (now_of 0))).0 h in
      let parts = (and-eq-true_iff (is_wait x.code) (eqb x.channel last.channel)).0 remains.0 in
      let code : x.code ≡ 0b0110 = eqb-true x.code 0b0110 parts.0 in
      let channel : x.channel ≡ last.channel = eqb-true x.channel last.channel parts.1 in
      let some : 1 ≤ now_of 0 = leb-true 1 (now_of 0) remains.1 in
      let on = on_section n 0b0110 x.channel refl (rw code at carried) in
      let within = carried_within requests n x.code x.channel carried in
      let ranked : rank_of_request x ≡ 2 = rw code (section_rank 0b0110 x.channel on) in
      let rank : 0 < rank_of_request x = rw ranked (lit< tt) in
      let stands : stands_of 0 0 ≡ no_request = rw (held_none some) in
      let runs : ltb 0 (now_of 0) ≡ true = lt-ltb 0 (now_of 0) some in
      let waits : x ≡ waiting (now_of 0) last = rw runs (λ i. record { code = code i; channel = channel i }) in
      let c = x.channel in
      let good = only_good n c 0 (inl refl) in
      let made : Makes n false record { conditions = only (suc n) c 0; command = 0; channel = 0 } x =
      record {
        fits = rules.fits_only mask w left last n 0 0 c 0 zero-le zero-le refl;
        protects = good;
        near =
            rules.near_top mask w left last n 0 0 c 0 within x rank (rw stands (rules.none_under mask w left last x rank)) (rules.none_under mask w left last x rank) (inl (sym waits))
            (inr (inr waits));
      } in
      let plain = bad_none x (ap is_fail_or_degrade code) in
      let other : is_command x.code ≡ false = ap is_command code in
      let command : command_for last x (is_louder hold (now_of 0) last far x) ≡ 0 = rw (other, parts.0) in
      let none : channel_for last x ≡ 0 = rw other in
      subst (λ (k : Cause). Makes n false k x)
      (λ i. record { conditions = only (suc n) c (sym plain i); command = sym command i; channel = sym none i }) made

  -- the cause where neither a command nor WTR is sent
  cause_quiet : (n : ℕ) (hold : Bool) (far : Request) (failed : Bool) (x : Request) → is_command x.code ≡ false → is_wait x.code ≡ false
      → shown n hold far failed x
      ≡ record {
        conditions = if failed then only (suc n) 0 2 else only (suc n) x.channel (bad_for mask x);
        command = clearing hold (deciding (rank_of_request far) x (rank_of_request x));
        channel = 0;
      }
  cause_quiet n hold far failed x e f = rw (e, f)

  none_makes : (n : ℕ) (hold : Bool) (far : Request) → Makes n false (shown n hold far false no_request) no_request
  none_makes n hold far =
      let rank = rank_of_request no_request in
      let quiet = quiet_below hold rank in
      let nothing : (y : Request) → Below hold rank y → y ≡ no_request =
      λ y below. ⊎_elim (λ e. e) (λ (less : rank_of_request y < rank). absurd (no_less y less)) below in
      quiet_makes hold rank n 0 0 no_request zero-le
      (rules.near_none mask w left last n (clearing hold rank) 0 0 0 zero-le (nothing (stands_of (clearing hold rank) 0) quiet.0) refl
      (nothing (waiting (now_of (clearing hold rank)) last) quiet.1))
    where
      no_less : (y : Request) → rank_of_request y < rank_of_request no_request → ⊥
      no_less y less = let none = none_rank in omega arith

  -- the condition of a section
  bad_makes : (n : ℕ) (hold : Bool) (c v : ℕ) (x : Request) → condition mask c v ≡ x → c ≤ n → v ≤ 2 → 0 < rank_of_request x
      → Makes n (eqb (protection (only (suc n) c v)) 2) (quietly hold (rank_of_request x) n c v) x
  bad_makes n hold c v x is within small some =
      let rank = rank_of_request x in
      let quiet = quiet_below hold rank in
      let under : (y : Request) → Below hold rank y → Under x y =
      λ y below. ⊎_elim (λ e. subst (Under x) (sym e) (rules.none_under mask w left last x some)) inr below in
      quiet_makes hold rank n c v x small
      (rules.near_top mask w left last n (clearing hold rank) 0 c v within x some (under (stands_of (clearing hold rank) 0) quiet.0) (inl is)
      (under (waiting (now_of (clearing hold rank)) last) quiet.1) (inr (inl (sym is))))

  -- RR to what the far end asks for: what is local is below that
  pub near_below : (n : ℕ) (hold : Bool) (c : ℕ) (far : Request) → c ≤ n → 0 < rank_of_request far →
      let rank = rank_of_request far in
      rank_of_request (near_of (only (suc n) c 0) (clearing hold rank) 0) < rank
  near_below n hold c far within some =
      let rank = rank_of_request far in
      let quiet = quiet_below hold rank in
      let near = near_of (only (suc n) c 0) (clearing hold rank) 0 in
      let stands = stands_of (clearing hold rank) 0 in
      let wait = waiting (now_of (clearing hold rank)) last in
      let none : (y : Request) → y ≡ no_request → rank_of_request y < rank =
      λ y e. subst (λ (z : Request). rank_of_request z < rank) (sym e) (rw none_rank some) in
      let less : (y : Request) → Below hold rank y → rank_of_request y < rank = λ y below. ⊎_elim (none y) (λ h. h) below in
      let one : (near ≡ stands) ⊎ ((near ≡ no_request) ⊎ (near ≡ no_request)) ⊎ (near ≡ wait) → rank_of_request near < rank =
      ⊎_elim (λ e. subst (λ (z : Request). rank_of_request z < rank) (sym e) (less stands quiet.0))
      (⊎_elim (⊎_elim (none near) (none near))
      (λ e. subst (λ (z : Request). rank_of_request z < rank) (sym e) (less wait quiet.1))) in
      ⊎_elim (none near) (λ among. one (rules.sources mask w left last n (clearing hold rank) 0 c 0 within near among))
      (local_one mask (protection (only (suc n) c 0)) (drop 1 (only (suc n) c 0)) stands wait last)

  -- the cause where RR is sent
  pub reverse_makes : (n : ℕ) (hold : Bool) (far x : Request) → x.code ≡ reverse_code →
      let rank = rank_of_request far in
      Makes n false (shown n hold far false x) (near_of (only (suc n) x.channel 0) (clearing hold rank) 0)
  reverse_makes n hold far x code =
      let c = x.channel in
      let rank = rank_of_request far in
      let bad = bad_none x (ap is_fail_or_degrade code) in
      let decides : deciding rank x (rank_of_request x) ≡ rank = rw code in
      let cause : shown n hold far false x ≡ quietly hold rank n c 0 =
      cause_quiet n hold far false x (ap is_command code) (ap is_wait code)
      ∙ (λ i. record { conditions = only (suc n) c (bad i); command = clearing hold (decides i); channel = 0 }) in
      let near = near_of (only (suc n) c 0) (clearing hold rank) 0 in
      subst (λ (t : Bool). Makes n t (shown n hold far false x) near) (only_good n c 0 (inl refl))
      (subst (λ (k : Cause). Makes n (eqb (protection (only (suc n) c 0)) 2) k near) (sym cause)
      (quiet_makes hold rank n c 0 near zero-le refl))

  -- the code of a condition is none of these
  record Asks (code : ℕ) : Type 0 where
    command : is_command code ≡ false
    wait : is_wait code ≡ false
    reverse : eqb code reverse_code ≡ false

  fail_asks : (is_high : Bool) → Asks (fail_code is_high)
  fail_asks true = record { command = refl; wait = refl; reverse = refl }
  fail_asks false = record { command = refl; wait = refl; reverse = refl }

  degrade_asks : (is_high : Bool) → Asks (degrade_code is_high)
  degrade_asks true = record { command = refl; wait = refl; reverse = refl }
  degrade_asks false = record { command = refl; wait = refl; reverse = refl }

  -- by the condition v of its own section
  section_makes : (n : ℕ) (hold : Bool) (far x : Request) → carries requests n x.code x.channel ≡ true → (v : ℕ)
      → condition mask x.channel v ≡ x → Asks x.code → bad_for mask x ≡ v → v ≤ 2 → 0 < rank_of_request x
      → (eqb v 2 ≡ false) ⊎ (1 ≤ x.channel) → Makes n false (shown n hold far false x) x
  section_makes n hold far x carried v is asks bad small some good =
      let c = x.channel in
      let within = carried_within requests n x.code c carried in
      let decides : deciding (rank_of_request far) x (rank_of_request x) ≡ rank_of_request x = rw asks.reverse in
      let cause : shown n hold far false x ≡ quietly hold (rank_of_request x) n c v =
      cause_quiet n hold far false x asks.command asks.wait
      ∙ (λ i. record { conditions = only (suc n) c (bad i); command = clearing hold (decides i); channel = 0 }) in
      subst (λ (t : Bool). Makes n t (shown n hold far false x) x) (only_good n c v good)
      (subst (λ (k : Cause). Makes n (eqb (protection (only (suc n) c v)) 2) k x) (sym cause)
      (bad_makes n hold c v x is within small some))

  condition_makes : (n : ℕ) (hold : Bool) (far x : Request) → carries requests n x.code x.channel ≡ true
      → conditioned mask x ≡ true → Makes n false (shown n hold far false x) x
  condition_makes n hold far x carried h = go (eqb x.code (degrade_code is_high)) refl h
    where
      c : ℕ
      c = x.channel

      is_high : Bool
      is_high = high mask x.channel

      go : (t : Bool) → eqb x.code (degrade_code is_high) ≡ t → t || leb 1 c && eqb x.code (fail_code is_high) ≡ true
          → Makes n false (shown n hold far false x) x
      go true e k =
          let code : x.code ≡ degrade_code is_high = eqb-true x.code (degrade_code is_high) e in
          let is : condition mask c 1 ≡ x = λ i. record { code = sym code i; channel = c } in
          section_makes n hold far x carried 1 is (subst Asks (sym code) (degrade_asks is_high)) (rw e) (lit≤ tt)
          (rw (← is) (degrade_rank mask c)) (inl refl)
      go false e k =
          let both = (and-eq-true_iff (leb 1 c) (eqb x.code (fail_code is_high))).0 k in
          let some = leb-true 1 c both.0 in
          let code : x.code ≡ fail_code is_high = eqb-true x.code (fail_code is_high) both.1 in
          let is : condition mask c 2 ≡ x = λ i. record { code = sym code i; channel = c } in
          section_makes n hold far x carried 2 is (subst Asks (sym code) (fail_asks is_high)) (rw (e, both.1)) (lit≤ tt)
          (rw (← is) (fail_rank is_high c some).0) (inr some)

  -- no condition asks for a command
  command_good : (x : Request) → is_command x.code ≡ true → bad_for mask x ≡ 0
  command_good x is = go (command_cases x.code is)
    where
      go : (x.code ≡ 0b1111) ⊎ (x.code ≡ 0b1110) ⊎ (x.code ≡ 0b1000) → bad_for mask x ≡ 0
      go (inl lo) = bad_none x (ap is_fail_or_degrade lo)
      go (inr (inl fs)) = bad_none x (ap is_fail_or_degrade fs)
      go (inr (inr ms)) = bad_none x (ap is_fail_or_degrade ms)

  -- what arises is made the local request by the cause that is shown
  pub arises_makes : (n : ℕ) (hold : Bool) (far x : Request) → carries requests n x.code x.channel ≡ true
      → arises mask (commanded (held last) (held x)) (now_of 0) last x ≡ true → Makes n false (shown n hold far false x) x
  unfolding arises held_in
  arises_makes n hold far x carried h =
      go (eqb x.code 0b0000) (commanded (held last) (held x)) (conditioned mask x) refl refl refl h
    where
      go : (none command section : Bool) → eqb x.code 0b0000 ≡ none → commanded (held last) (held x) ≡ command
          → conditioned mask x ≡ section → none || command || section || waited (now_of 0) last x ≡ true
          → Makes n false (shown n hold far false x) x
      go true command section e f g k =
          let code : x.code ≡ 0b0000 = eqb-true x.code 0b0000 e in
          let channel : x.channel ≡ 0 = on_protection n 0b0000 x.channel refl (rw code at carried) in
          let is : no_request ≡ x = λ i. record { code = sym code i; channel = sym channel i } in
          subst (λ (y : Request). Makes n false (shown n hold far false y) y) is (none_makes n hold far)
      go false true section e f g k =
          let by = by_command n x carried f (is_louder hold (now_of 0) last far x) in
          let high = by.1 in
          let c = x.channel in
          let within = carried_within requests n x.code c carried in
          let made = command_makes n c 0 _ _ x within by.0 high zero-le (rules.none_under mask w left last x (omega arith)) in
          rw (command_good x (commanded_by (held last) x f).0)
          (subst (λ (t : Bool). Makes n t record { conditions = only (suc n) c 0; command = command_for last x (is_louder hold (now_of 0) last far x); channel = channel_for last x } x)
          (only_good n c 0 (inl refl)) made)
      go false false true e f g k = condition_makes n hold far x carried g
      go false false false e f g k = wait_makes n hold far x carried k

  -- and so is what section 0, failed, makes of it
  pub unseen_makes : (n : ℕ) (hold : Bool) (far x : Request) → carries requests n x.code x.channel ≡ true
      → unseen (commanded (held last) (held x)) x ≡ true → Makes n true (shown n hold far true x) x
  unfolding unseen rank_of rank_in
  unseen_makes n hold far x carried h =
      let parts =
      (and-eq-true_iff (eqb x.channel 0)
      (eqb x.code 0b1101 || eqb x.code 0b1111 && commanded (held last) (held x))).0 h in
      let zero : x.channel ≡ 0 = eqb-true x.channel 0 parts.0 in
      ⊎_elim
      (λ sf.
      let code : x.code ≡ 0b1101 = eqb-true x.code 0b1101 sf in
      let is : condition mask 0 2 ≡ x = λ i. record { code = sym code i; channel = sym zero i } in
      subst (λ (y : Request). Makes n true (shown n hold far true y) y) is
      (bad_makes n hold 0 2 (condition mask 0 2) refl zero-le (lit≤ tt) (lit< tt)))
      (λ lo.
      let both = (and-eq-true_iff (eqb x.code 0b1111) (commanded (held last) (held x))).0 lo in
      let code : x.code ≡ 0b1111 = eqb-true x.code 0b1111 both.0 in
      let by = by_command n x carried both.1 (is_louder hold (now_of 0) last far x) in
      let top : rank_of_request (condition mask 0 2) < rank_of_request x = rw (code, zero) (lit< tt) in
      command_makes n 0 2 _ _ x zero-le by.0 by.1 (lit≤ tt) (inr top))
      (or_cases (eqb x.code 0b1101) (eqb x.code 0b1111 && commanded (held last) (held x)) parts.1)
