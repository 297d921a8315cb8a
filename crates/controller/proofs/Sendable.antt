-- What may be sent: a request of the table for n, coded by the mask, and WTR only while wait remains. Each candidate for
-- the local request may be sent, and so may what is decided.
use mathlib.Core.Path.{◌≡◌, refl, sym, ◌∙◌}
use mathlib.Core.Bool.{Bool, true, false, ◌&&◌, false≢true}
use mathlib.Core.List.{List, [], ◌∷◌}
use mathlib.Core.Logic.{◌⊎◌, inl, inr}
use Prim.Native.Nat.{ℕ, suc, ◌+◌, ◌≤◌, ◌<◌}
use native.Mathlib.Omega.{arith}
use lib.Dec.{leb, eqb, leb-zero}
use lib.ListN.{length}
use borrow.Author.Tests.{eqb-true, eqb-false, le-leb}
use Rattle.basics.specs.Settings.{sections_fit}
use Rattle.basics.proofs.Fitting.{fit_bounds}
use Rattle.pair.specs.Request.{requests, carries, a_section}
use Rattle.pair.proofs.Rows.{held_in, carries_section, carried_below, carried_within}
use Rattle.request.specs.declared.Request.{Request}
use Rattle.request.proofs.Order.{Each}
use Rattle.controller.specs.Settings.{high}
use Rattle.controller.specs.Rules.{request, lockout, forced, manual, wait_to_restore, reverse, no_request}
use Rattle.controller.specs.Rules.{is_command, fail_code, degrade_code, condition, conditions_from, is_wait}
use Rattle.controller.specs.Refusals.{other_priority, against_mask}
use Rattle.controller.proofs.Apart.{command_cases, condition_has}

module _ (n mask now : ℕ) where
  pub record Sendable (r : Request) : Type 0 where
    pub carried : carries requests n r.code r.channel ≡ true
    pub coded : against_mask mask r.code r.channel ≡ false
    pub waits : is_wait r.code ≡ true → 0 < now

  -- a section's request is carried, where its row has the sections
  section_carried : (code c : ℕ) → held_in requests a_section code ≡ true → 1 ≤ c → c ≤ n → carries requests n code c ≡ true
  section_carried code c held h k =
      carries_section requests n code c (omega arith) ∙ rw (held, le-leb c n k)

  -- neither a fail nor a degrade
  abbrev Neutral : ℕ → Type 0
  Neutral code = (b : Bool) → other_priority b code ≡ false

  neutral_coded : (code c : ℕ) → Neutral code → against_mask mask code c ≡ false
  neutral_coded code c neutral = go (leb 1 c)
    where
      go : (t : Bool) → t && other_priority (high mask c) code ≡ false
      go true = neutral (high mask c)
      go false = refl

  no_wait : (code : ℕ) → is_wait code ≡ false → is_wait code ≡ true → 0 < now
  no_wait code h k = absurd (false≢true (sym h ∙ k))

  pub none_sendable : Sendable no_request
  unfolding carries
  none_sendable = record { carried = refl; coded = refl; waits = no_wait 0b0000 refl }

  pub lockout_sendable : Sendable lockout
  unfolding carries
  lockout_sendable = record { carried = refl; coded = refl; waits = no_wait 0b1111 refl }

  both : (code : ℕ) → other_priority true code ≡ false → other_priority false code ≡ false → Neutral code
  both code h k true = h
  both code h k false = k

  -- a command on a section
  section_sendable : (code c : ℕ) → held_in requests a_section code ≡ true → Neutral code → is_wait code ≡ false
      → 1 ≤ c → c ≤ n → Sendable (request code c)
  section_sendable code c held neutral wait h k =
      record {
        carried = section_carried code c held h k;
        coded = neutral_coded code c neutral;
        waits = no_wait code wait;
      }

  pub forced_sendable : (c : ℕ) → 1 ≤ c → c ≤ n → Sendable (forced c)
  unfolding held_in
  forced_sendable c = section_sendable 0b1110 c refl (both 0b1110 refl refl) refl

  pub manual_sendable : (c : ℕ) → 1 ≤ c → c ≤ n → Sendable (manual c)
  unfolding held_in
  manual_sendable c = section_sendable 0b1000 c refl (both 0b1000 refl refl) refl

  -- a command of the table
  pub command_sendable : (r : Request) → is_command r.code ≡ true → carries requests n r.code r.channel ≡ true
      → Sendable r
  command_sendable r is carried = go (command_cases r.code is)
    where
      by_code : (code : ℕ) → Neutral code → is_wait code ≡ false → r.code ≡ code → Sendable r
      by_code code neutral wait e =
          record {
            carried = carried;
            coded = rw e (neutral_coded code r.channel neutral);
            waits = rw e (no_wait code wait);
          }

      go : (r.code ≡ 0b1111) ⊎ (r.code ≡ 0b1110) ⊎ (r.code ≡ 0b1000) → Sendable r
      go (inl lo) = by_code 0b1111 (both 0b1111 refl refl) refl lo
      go (inr (inl fs)) = by_code 0b1110 (both 0b1110 refl refl) refl fs
      go (inr (inr ms)) = by_code 0b1000 (both 0b1000 refl refl) refl ms

  pub wait_sendable : (c : ℕ) → 1 ≤ c → c ≤ n → 0 < now → Sendable (wait_to_restore c)
  unfolding held_in
  wait_sendable c h k remains =
      record {
        carried = section_carried 0b0110 c refl h k;
        coded = neutral_coded 0b0110 c (both 0b0110 refl refl);
        waits = λ e. remains;
      }

  pub reverse_sendable : (c : ℕ) → c ≤ n → Sendable (reverse c)
  unfolding carries
  reverse_sendable c k =
      record {
        carried = rw (le-leb c n k);
        coded = neutral_coded 0b0010 c (both 0b0010 refl refl);
        waits = no_wait 0b0010 refl;
      }

  -- a code by priority, as that of a fail or of a degrade
  record ByPriority (code_of : Bool → ℕ) : Type 0 where
    on_protection : carries requests n (code_of true) 0 ≡ true
    on_section : (b : Bool) → held_in requests a_section (code_of b) ≡ true
    own_priority : (b : Bool) → other_priority b (code_of b) ≡ false
    not_wait : (b : Bool) → is_wait (code_of b) ≡ false

  by_priority : {code_of : Bool → ℕ} → ByPriority code_of → (c : ℕ) → c ≤ n → Sendable (request (code_of (high mask c)) c)
  by_priority {code_of} f c k =
      record {
        carried = go (eqb c 0) refl;
        coded = rw (f.own_priority (high mask c)) (never (leb 1 c));
        waits = no_wait (code_of (high mask c)) (f.not_wait (high mask c));
      }
    where
      never : (t : Bool) → t && false ≡ false
      never true = refl
      never false = refl

      go : (t : Bool) → eqb c 0 ≡ t → carries requests n (code_of (high mask c)) c ≡ true
      go true e = let z : c ≡ 0 = eqb-true c 0 e in rw z f.on_protection
      go false e =
          let nz : c ≡ 0 → ⊥ = eqb-false c 0 e in
          section_carried (code_of (high mask c)) c (f.on_section (high mask c)) (omega arith) k

  fails : ByPriority fail_code
  unfolding carries held_in
  fails =
      record {
        on_protection = refl;
        on_section = elim [ true ↦ refl | false ↦ refl ];
        own_priority = elim [ true ↦ refl | false ↦ refl ];
        not_wait = elim [ true ↦ refl | false ↦ refl ];
      }

  degrades : ByPriority degrade_code
  unfolding carries held_in
  degrades =
      record {
        on_protection = rw (leb-zero n);
        on_section = elim [ true ↦ refl | false ↦ refl ];
        own_priority = elim [ true ↦ refl | false ↦ refl ];
        not_wait = elim [ true ↦ refl | false ↦ refl ];
      }

  pub condition_sendable : (c x : ℕ) → c ≤ n → Sendable (condition mask c x)
  condition_sendable c x k =
      condition_has mask Sendable c x (by_priority fails c k) (by_priority degrades c k) none_sendable

  pub conditions_sendable : (xs : List ℕ) (c : ℕ) → c + length xs ≤ n + 1 → Each Sendable (conditions_from mask c xs)
  conditions_sendable [] c h = tt
  conditions_sendable (x ∷ xs) c h =
      let k : c ≤ n = omega arith in
      let rest : suc c + length xs ≤ n + 1 = omega arith in
      (condition_sendable c x k, conditions_sendable xs (suc c) rest)

-- what may be sent has room in a K1
pub sendable_room : (n mask now : ℕ) (r : Request) → sections_fit n ≡ true → Sendable n mask now r
    → (r.code ≤ 15) × (r.channel ≤ 14)
sendable_room n mask now r fits able =
    let below = carried_below 16 requests n r.code r.channel refl able.carried in
    let within = carried_within requests n r.code r.channel able.carried in
    let bounds = (fit_bounds n fits).1 in
    (omega arith, omega arith)
