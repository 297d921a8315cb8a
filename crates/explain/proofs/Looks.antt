-- The rank of a sent K1, as the table has it, is that of the rows wherever it matters; and the scan keeps what the looks ask
-- for.
use mathlib.Core.Path.{◌≡◌, refl}
use mathlib.Core.Bool.{Bool, true, false, false≢true}
use Prim.Native.Nat.{ℕ, ◌≤◌}
use Rattle.pair.specs.Request.{requests, rank_of}
use Rattle.pair.specs.Marks.{code_of, channel_of, usable}
use Rattle.pair.specs.Table.{usable_for, value_in, number_for}
use Rattle.pair.proofs.Looking.{carried_most, rank_looked}
use Rattle.pair.proofs.Coding.{usable_parts}
use Rattle.request.specs.declared.Request.{Request}
use Rattle.controller.specs.Rules.{asked, is_command, held, rank_of_request}
use Rattle.controller.specs.declared.Controller.{Controller}
use Rattle.basics.specs.Capture.{Row}
use Rattle.basics.specs.Settings.{sections_fit}
use Rattle.explain.specs.Cause.{commanded_at, commanded, answers}
use Rattle.explain.specs.Trace.{live, opens_at, accepted_byte, heard_by, next_with, next, Fit}
use Rattle.explain.specs.declared.Heard.{Heard}
use Rattle.explain.specs.declared.Ranked.{Ranked}
use Rattle.explain.specs.declared.Records.{Records}

usable_channel : (k1 n : ℕ) → sections_fit n ≡ true → usable_for requests k1 n ≡ true → channel_of k1 ≤ 14
usable_channel k1 n sections e = carried_most requests n (code_of k1) (channel_of k1) sections e

-- a look at a K1 whose channel some group has gives the rank of its request
pub look_rank : (k1 : ℕ) → channel_of k1 ≤ 14 → (value_in (number_for requests k1)).rank ≡ rank_of_request (asked k1)
unfolding rank_of
look_rank k1 within = rank_looked requests k1 within

-- what an accepted pair asks for
abbrev pub asked_by : Heard → Ranked
asked_by far = record { request = asked far.k1; rank = far.rank }

-- of a request that is no command it does not matter which rank it has
pub command_ranked : (prior x : Request) → commanded_at (rank_of_request x) prior (held x) ≡ commanded prior (held x)
command_ranked prior x = go (is_command x.code) refl
  where
    go : (t : Bool) → is_command x.code ≡ t → commanded_at (rank_of_request x) prior (held x) ≡ commanded prior (held x)
    go true e = rw e
    go false e = rw e

module _ (s : Controller) (k1 k2 : ℕ) (sections : sections_fit s.n ≡ true) (within : channel_of s.k1 ≤ 14) where
  received_channel : usable s.n k1 k2 ≡ true → channel_of k1 ≤ 14
  received_channel e = usable_channel k1 s.n sections (usable_parts s.n k1 k2 sections e).carried

  -- the rank of the K1 that is accepted, and its channel
  pub accepted_rank :
      accepted_byte (usable s.n k1 k2) (value_in (number_for requests k1)).rank (rank_of_request (asked s.k1))
      ≡ (heard_by s k1 k2).rank
  accepted_rank = go (usable s.n k1 k2) refl
    where
      go : (t : Bool) → usable s.n k1 k2 ≡ t
          → accepted_byte (usable s.n k1 k2) (value_in (number_for requests k1)).rank (rank_of_request (asked s.k1))
          ≡ (heard_by s k1 k2).rank
      go true e = rw e (look_rank k1 (received_channel e))
      go false e = rw e

  accepted_channel : channel_of (heard_by s k1 k2).k1 ≤ 14
  accepted_channel = go (usable s.n k1 k2) refl
    where
      go : (t : Bool) → usable s.n k1 k2 ≡ t → channel_of (heard_by s k1 k2).k1 ≤ 14
      go true e = rw e (received_channel e)
      go false e = rw e within

module _ (d : Records) (r : Row) (fit : Fit d) where
  abbrev x : Request
  x = asked r.sent_k1

  abbrev next_at : ℕ → Records
  next_at rank =
      next_with (commanded_at rank (held (asked d.controller.sent)) (held x))
      (λ k1 local. opens_at rank k1 x r.sent_k2 local) d r

  -- where the sent K1 does not stand in the table, nothing is left whatever its rank
  pub next_ranked : next_at (value_in (number_for requests r.sent_k1)).rank ≡ next d r
  unfolding next answers
  next_ranked = go (usable_for requests r.sent_k1 d.controller.n) refl
    where
      go : (t : Bool) → usable_for requests r.sent_k1 d.controller.n ≡ t
          → next_at (value_in (number_for requests r.sent_k1)).rank ≡ next d r
      go true e =
          rw (
            look_rank r.sent_k1 (usable_channel r.sent_k1 d.controller.n fit.sections e),
            command_ranked (held (asked d.controller.sent)) x,
          )
      go false e = rw e

  pub next_fit : live (next d r) ≡ true → Fit (next d r)
  unfolding next
  next_fit alive = go (usable_for requests r.sent_k1 d.controller.n) refl
    where
      go : (t : Bool) → usable_for requests r.sent_k1 d.controller.n ≡ t → Fit (next d r)
      go true e =
          record {
            sections = fit.sections;
            sent = usable_channel r.sent_k1 d.controller.n fit.sections e;
            accepted = accepted_channel d.controller r.k1 r.k2 fit.sections fit.accepted;
          }
      go false e = absurd (false≢true (rw e at alive))
