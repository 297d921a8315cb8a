-- Commands: their numbers, codes and ranks, and the closed form for them taken apart and put together.
use mathlib.Core.Path.{◌≡◌, refl, sym, ap, subst, ◌∙◌}
use mathlib.Core.Bool.{Bool, true, false, not, ◌&&◌, ◌||◌, and-eq-true_iff, false≢true}
use mathlib.Core.Logic.{◌⊎◌, inl, inr, ⊎_elim}
use Prim.Native.Nat.{ℕ, ◌≤◌}
use lib.Dec.{leb, eqb, lit≤}
use borrow.Author.Tests.{le-leb, eq-eqb, ne_eqb}
use Rattle.pair.specs.Request.{requests, carries, channel_0, nothing_code}
use Rattle.pair.proofs.Rows.{held_in, carried_within}
use Rattle.request.specs.Order.{same}
use Rattle.request.specs.declared.Request.{Request}
use Rattle.std.proofs.lemmas.Bool.{or_cases, or_right}
use Rattle.request.proofs.FirstCome.{same_one}
use Rattle.controller.specs.Rules.{request, rank_of_request, is_command, held, is_clear, given, replaces_held}
use Rattle.controller.specs.Refusals.{channel_fits}
use Rattle.controller.proofs.Apart.{none_rank, command_cases}
use Rattle.controller.proofs.Ranking.{on_section, on_protection, command_ranked}
use Rattle.explain.specs.Cause.{rank_held, commanded, command_number}

-- a command has another code than none
pub command_code : (code : ℕ) → is_command code ≡ true → eqb code nothing_code ≡ false
command_code code h = ne_eqb code nothing_code (λ z. false≢true (rw z at h))

-- the held command has the rank of what was last sent, and else none
pub held_rank : (last : Request) → rank_held (held last) (rank_of_request last) ≡ rank_of_request (held last)
held_rank last = go (is_command last.code) refl
  where
    go : (t : Bool) → is_command last.code ≡ t
        → rank_held (held last) (rank_of_request last) ≡ rank_of_request (held last)
    go true e = rw (e, command_code last.code e)
    go false e = rw e (sym none_rank)

-- a request of the table that is a command, of that number in the paper's list; and its rank
pub record Command (n : ℕ) (x : Request) (number : ℕ) : Type 0 where
  pub known : number ≤ 4
  pub fits : channel_fits n number x.channel ≡ true
  pub other : is_clear number ≡ false
  pub new : given number x.channel ≡ x
  pub high : 3 ≤ rank_of_request x

module _ (n : ℕ) (x : Request) (carried : carries requests n x.code x.channel ≡ true) where
  -- on a section, by the number and the code of the command
  on_some : (k code : ℕ) → x.code ≡ code → k ≤ 4 → leb k 2 ≡ false → is_clear k ≡ false
      → given k x.channel ≡ request code x.channel → held_in requests channel_0 code ≡ false
      → 3 ≤ rank_of_request x → Command n x k
  on_some k code e known above-2 other new never high =
      let here : carries requests n code x.channel ≡ true = rw e at carried in
      let some = on_section n code x.channel never here in
      let most = carried_within requests n code x.channel here in
      record {
        known = known;
        fits = rw (above-2, le-leb 1 x.channel some, le-leb x.channel n most);
        other = other;
        new = new ∙ (λ i. record { code = sym e i; channel = x.channel });
        high = high;
      }

  lock_out : x.code ≡ 0b1111 → 3 ≤ rank_of_request x → Command n x 2
  unfolding held_in
  lock_out e high =
      let zero : x.channel ≡ 0 = on_protection n 0b1111 x.channel refl (rw e at carried) in
      record {
        known = lit≤ tt;
        fits = rw zero;
        other = refl;
        new = λ i. record { code = sym e i; channel = sym zero i };
        high = high;
      }

  pub a_command : is_command x.code ≡ true → Command n x (command_number x.code)
  unfolding held_in
  a_command h = go (command_cases x.code h)
    where
      high : 3 ≤ rank_of_request x
      high = command_ranked n x h carried

      go : (x.code ≡ 0b1111) ⊎ (x.code ≡ 0b1110) ⊎ (x.code ≡ 0b1000) → Command n x (command_number x.code)
      go (inl lo) = subst (Command n x) (sym (ap command_number lo)) (lock_out lo high)
      go (inr (inl fs)) =
          subst (Command n x) (sym (ap command_number fs)) (on_some 3 0b1110 fs (lit≤ tt) refl refl refl refl high)
      go (inr (inr ms)) =
          subst (Command n x) (sym (ap command_number ms)) (on_some 4 0b1000 ms (lit≤ tt) refl refl refl refl high)

-- the closed form for commands, taken apart
pub commanded_by : (prior x : Request) → commanded prior (held x) ≡ true
    → (is_command x.code ≡ true) × ((x ≡ prior) ⊎ (replaces_held prior x ≡ true))
commanded_by prior x h = go (is_command x.code) refl
  where
    go : (t : Bool) → is_command x.code ≡ t → (is_command x.code ≡ true) × ((x ≡ prior) ⊎ (replaces_held prior x ≡ true))
    go true e =
        let sent : not (eqb x.code 0b0000) && (same x prior || replaces_held prior x) ≡ true = rw e at h in
        let which = ((and-eq-true_iff (not (eqb x.code 0b0000)) (same x prior || replaces_held prior x)).0 sent).1 in
        (e, ⊎_elim (λ s. inl (same_one x prior s)) inr (or_cases (same x prior) (replaces_held prior x) which))
    go false e = absurd (false≢true (rw e at h))

-- and put together
pub commanded_of : (prior x : Request) → is_command x.code ≡ true → (x ≡ prior) ⊎ (replaces_held prior x ≡ true)
    → commanded prior (held x) ≡ true
commanded_of prior x e how = rw e (rw (some, which how))
  where
    some : eqb x.code 0b0000 ≡ false
    some = command_code x.code e

    which : (x ≡ prior) ⊎ (replaces_held prior x ≡ true) → same x prior || replaces_held prior x ≡ true
    which (inl is) =
        let code : eqb x.code prior.code ≡ true = eq-eqb x.code prior.code (ap (λ (r : Request). r.code) is) in
        let channel : eqb x.channel prior.channel ≡ true =
        eq-eqb x.channel prior.channel (ap (λ (r : Request). r.channel) is) in
        rw (code, channel)
    which (inr takes) = rw takes (or_right (same x prior) true refl)
