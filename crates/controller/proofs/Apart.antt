-- The three kinds of candidates, commands, conditions and waits, share no rank.
use mathlib.Core.Path.{◌≡◌, refl, sym, ap, ◌∙◌}
use mathlib.Core.Bool.{Bool, true, false, ◌&&◌, ◌||◌, and-eq-true_iff, true≢false}
use mathlib.Core.Logic.{◌⊎◌, inl, inr, ⊎_elim}
use Prim.Native.Nat.{ℕ, ◌<◌}
use native.Mathlib.Nat.{not-suc-le-zero}
use native.Mathlib.Omega.{arith}
use lib.Dec.{ltb, eqb}
use borrow.Author.Tests.{eqb-true}
use Rattle.std.specs.Prelude.{if◌then◌else◌}
use Rattle.pair.specs.Request.{requests, carries, wait_code, nothing_code, rank_in, rank_of}
use Rattle.pair.specs.Marks.{code_of, channel_of}
use Rattle.pair.proofs.Ranks.{rank_own}
use Rattle.request.specs.declared.Request.{Request}
use Rattle.request.proofs.Order.{choice_has}
use Rattle.std.proofs.lemmas.Bool.{or_cases}
use Rattle.controller.specs.Settings.{high, none_held}
use Rattle.controller.specs.Rules.{request, lockout, forced, manual, wait_to_restore, no_request, asked, rank_of_request}
use Rattle.controller.specs.Rules.{is_command, held, held_by, is_clear, kept, given, in_force, fail_code, degrade_code}
use Rattle.controller.specs.Rules.{condition, is_wait, waiting}
use Rattle.controller.specs.Refusals.{held_fits}
use Rattle.controller.specs.Asking.{OfKind}

pub none_rank : rank_of_request no_request ≡ 0
unfolding rank_of rank_in
none_rank = refl

-- each rank above 0 is one code's alone, so a request of another kind does not have it
pub other_rank : (kind : ℕ → Bool) (x y : Request) → OfKind kind x → kind y.code ≡ false → 0 < rank_of_request x
    → rank_of_request y ≡ rank_of_request x → ⊥
other_rank kind x y (inl is) other some same =
    true≢false
    (sym is ∙ ap kind (rank_own x.code x.channel y.code y.channel some (sym same)) ∙ other)
other_rank kind x y (inr none) other some same =
    let zero : rank_of_request x ≡ 0 = ap rank_of_request none ∙ none_rank in
    absurd (omega arith)

-- LO, FS and MS
pub command_cases : (code : ℕ) → is_command code ≡ true → (code ≡ 0b1111) ⊎ (code ≡ 0b1110) ⊎ (code ≡ 0b1000)
command_cases code h =
    ⊎_elim
    (λ two.
    ⊎_elim (λ lo. inl (eqb-true code 0b1111 lo)) (λ fs. inr (inl (eqb-true code 0b1110 fs)))
    (or_cases (eqb code 0b1111) (eqb code 0b1110) two))
    (λ ms. inr (inr (eqb-true code 0b1000 ms)))
    (or_cases (eqb code 0b1111 || eqb code 0b1110) (eqb code 0b1000) h)

pub held_kind : (last : Request) → OfKind is_command (held last)
held_kind last = go (is_command last.code) refl
  where
    go : (t : Bool) → is_command last.code ≡ t → OfKind is_command (held last)
    go true e = rw e (inl e)
    go false e = rw e (inr refl)

pub given_kind : (command c : ℕ) → OfKind is_command (given command c)
given_kind command c =
    choice_has (OfKind is_command) (eqb command 2) lockout (if eqb command 3 then forced c else later) (inl refl)
    (choice_has (OfKind is_command) (eqb command 3) (forced c) later (inl refl)
    (choice_has (OfKind is_command) (eqb command 4) (manual c) no_request (inl refl) (inr refl)))
  where
    later : Request
    later = if eqb command 4 then manual c else no_request

-- the command that a record has is none, or one of the table; the latter with hold alone
pub held_cases : (n : ℕ) (hold : Bool) (k1 : ℕ) → held_fits n hold k1 ≡ true
    → (k1 ≡ none_held)
    ⊎ ((hold ≡ true) × (is_command (code_of k1) ≡ true) × (carries requests n (code_of k1) (channel_of k1) ≡ true))
held_cases n hold k1 h =
    ⊎_elim (λ none. inl (eqb-true k1 none_held none))
    (λ some.
    let carried = (and-eq-true_iff (hold && is_command (code_of k1)) (carries requests n (code_of k1) (channel_of k1))).0 some in
    let command = (and-eq-true_iff hold (is_command (code_of k1))).0 carried.0 in
    inr (command.0, command.1, carried.1))
    (or_cases (eqb k1 none_held)
    (hold && is_command (code_of k1) && carries requests n (code_of k1) (channel_of k1)) h)

-- without the setting there is none
pub held_off : (n k1 : ℕ) → held_fits n false k1 ≡ true → k1 ≡ none_held
held_off n k1 h = ⊎_elim (λ none. none) (λ on. absurd (true≢false (sym on.0))) (held_cases n false k1 h)

pub held_by_kind : (n : ℕ) (hold : Bool) (k1 : ℕ) (last : Request) → held_fits n hold k1 ≡ true
    → OfKind is_command (held_by hold k1 last)
held_by_kind n hold k1 last h =
    choice_has (OfKind is_command) hold (asked k1) (held last)
    (⊎_elim (λ none. inr (ap asked none)) (λ some. inl some.1) (held_cases n hold k1 h)) (held_kind last)

-- what is in force is a command, or none
pub command_kind : (replaced : Bool) (command c : ℕ) (prior : Request) → OfKind is_command prior
    → OfKind is_command (in_force replaced (kept command prior) (given command c))
command_kind replaced command c prior kind =
    choice_has (OfKind is_command) replaced (given command c) (kept command prior) (given_kind command c)
    (choice_has (OfKind is_command) (is_clear command) no_request prior (inr refl) kind)

pub wait_kind : (now : ℕ) (last : Request) → OfKind is_wait (waiting now last)
wait_kind now last =
    choice_has (OfKind is_wait) (ltb 0 now) (wait_to_restore last.channel) no_request (inl refl) (inr refl)

pub wait_no_command : (x : Request) → OfKind is_wait x → is_command x.code ≡ false
wait_no_command x (inl is) = rw (eqb-true x.code wait_code is)
wait_no_command x (inr none) = rw none

module _ (mask : ℕ) where
  -- what holds of section c's fail and degrade, and of NR 0, holds of what its condition asks for
  pub condition_has : (P : Request → Type 0) (c x : ℕ) → P (request (fail_code (high mask c)) c)
      → P (request (degrade_code (high mask c)) c) → P no_request → P (condition mask c x)
  condition_has P c x fails degrades none =
      choice_has P (eqb x 2) (request (fail_code (high mask c)) c)
      (if eqb x 1 then request (degrade_code (high mask c)) c else no_request) fails
      (choice_has P (eqb x 1) (request (degrade_code (high mask c)) c) no_request degrades none)

  -- a kind that has none of the four codes has no condition
  other_kind : (kind : ℕ → Bool) → ((is_high : Bool) → kind (fail_code is_high) ≡ false)
      → ((is_high : Bool) → kind (degrade_code is_high) ≡ false) → kind nothing_code ≡ false
      → (c x : ℕ) → kind (condition mask c x).code ≡ false
  other_kind kind fails degrades none c x =
      condition_has (λ (r : Request). kind r.code ≡ false) c x (fails (high mask c)) (degrades (high mask c)) none

  pub no_command : (c x : ℕ) → is_command (condition mask c x).code ≡ false
  no_command = other_kind is_command (elim [ true ↦ refl | false ↦ refl ]) (elim [ true ↦ refl | false ↦ refl ]) refl

  pub no_wait : (c x : ℕ) → is_wait (condition mask c x).code ≡ false
  no_wait = other_kind is_wait (elim [ true ↦ refl | false ↦ refl ]) (elim [ true ↦ refl | false ↦ refl ]) refl

  pub own_channel : (c x : ℕ) → 0 < rank_of_request (condition mask c x) → (condition mask c x).channel ≡ c
  own_channel c x =
      condition_has (λ (r : Request). 0 < rank_of_request r → r.channel ≡ c) c x (λ h. refl) (λ h. refl)
      (λ h. absurd (not-suc-le-zero (rw none_rank at h)))
