-- What some cause makes a controller send: closed forms, over the command held before the step and the one held after it; and
-- the cause that is shown. The forms `..At` take the rank of what is sent; the others look it up.
use Rattle.std.specs.Prelude.{if◌then◌else◌, Bool, not, ◌&&◌, ◌||◌, List, [], ◌∷◌, ℕ, zero, suc, ltb, leb, eqb}
use Rattle.pair.specs.Request.{lockout_code, forced_code, fail_high_code, reverse_code, nothing_code}
use Rattle.request.specs.Order.{may_win, better, same}
use Rattle.request.specs.Command.{replaces}
use Rattle.request.specs.declared.Request.{Request}
use Rattle.controller.specs.Rules.{rank_of_request, held, condition, is_wait}
use Rattle.explain.specs.Explained.{Cause}
use Rattle.explain.specs.declared.Ranked.{Ranked}

-- a request with its rank
abbrev pub ranked : Request → Ranked
ranked x = record { request = x; rank = rank_of_request x }

-- a command goes on, or its rank lets it replace the one that was held
abbrev pub follows : Bool → ℕ → ℕ → Bool
follows goes_on old rank = goes_on || replaces old rank

-- a command is held afterwards, and follows
abbrev pub commanded_at : ℕ → Request → Request → Bool
commanded_at rank prior after =
    not (eqb after.code nothing_code) && follows (same after prior) (rank_of_request prior) rank

abbrev pub commanded : Request → Request → Bool
commanded prior after = commanded_at (rank_of_request after) prior after

-- the rank of a held command, where this is what it would have
abbrev pub rank_held : Request → ℕ → ℕ
rank_held prior rank = if eqb prior.code nothing_code then 0 else rank

-- a degraded section asks for it, or a failed one but section 0
abbrev pub conditioned : ℕ → Request → Bool
conditioned mask x =
    eqb x.code (condition mask x.channel 1).code
    || leb 1 x.channel && eqb x.code (condition mask x.channel 2).code

-- wait remains for its channel
abbrev pub waited : ℕ → Request → Request → Bool
waited now last x = is_wait x.code && eqb x.channel last.channel && leb 1 now

-- some cause makes it the local request, section 0 not failed: none, by a command, by a condition, by the wait
unfoldable pub arises : ℕ → Bool → ℕ → Request → Request → Bool
arises mask command now last x = eqb x.code nothing_code || command || conditioned mask x || waited now last x

-- some cause makes it the local request, section 0 failed: SF0, or LO above it
unfoldable pub unseen : Bool → Request → Bool
unseen command x = eqb x.channel 0 && (eqb x.code fail_high_code || eqb x.code lockout_code && command)

-- it is RR to what the far end asks for, or a local request that the far end does not beat
abbrev pub answers_with : Ranked → Ranked → Bool → Bool
answers_with far x local =
    eqb x.request.code reverse_code && may_win far.rank && eqb far.request.channel x.request.channel
    || local && not (better far.rank far.request.channel x.rank x.request.channel)

abbrev pub answers_at : ℕ → Request → Request → Bool → Bool
answers_at rank far x local = answers_with (ranked far) (record { request = x; rank = rank }) local

unfoldable pub answers : Request → Request → Bool → Bool
answers far x local = answers_at (rank_of_request x) far x local

-- What is sent in a row that some cause explains: a local request, but for RR and SF0; and SF0 and LO alone may be sent under a
-- failed section 0.
abbrev pub is_sf0 : Request → Bool
is_sf0 x = eqb x.channel 0 && eqb x.code fail_high_code

abbrev pub is_local : Request → Bool
is_local x = not (eqb x.code reverse_code) && not (is_sf0 x)

abbrev pub may_hide : Request → Bool
may_hide x = eqb x.channel 0 && (eqb x.code fail_high_code || eqb x.code lockout_code)

-- The cause that is shown (02, a), of all that there may be. Conditions of k sections: all good but v at section c.
abbrev pub only : ℕ → ℕ → ℕ → List ℕ
only zero c v = []
only (suc k) zero v = v ∷ only k 0 0
only (suc k) (suc c) v = 0 ∷ only k c v

-- the condition of its own section that asks for what is sent, or 0
abbrev pub bad_for : ℕ → Request → ℕ
bad_for mask x =
    if eqb x.code (condition mask x.channel 1).code then 1
    else if eqb x.code (condition mask x.channel 2).code then 2
    else 0

-- a command is sent that was not sent last, so it is given in this step
abbrev pub is_new : Request → Request → Bool
is_new last x = not (eqb (held x).code nothing_code) && not (same x last)

-- what is sent goes on by itself: a command, or the wait
abbrev pub goes_on : Request → Bool
goes_on x = not (eqb (held x).code nothing_code) || is_wait x.code

-- without a clear the held command, of rank `prior`, or the wait, of rank 2, would be at least as loud as this rank; with hold
-- a command that is less loud has to be dropped too, since it would come back (02, g)
abbrev pub louder : Bool → ℕ → ℕ → ℕ → Bool
louder hold rank prior now = ltb 0 prior && (hold || leb rank prior) || ltb 0 now && leb rank 2

-- the rank that decides: that of what the far end asks for, if RR is sent; else that of what is sent
abbrev pub deciding : ℕ → Request → ℕ → ℕ
deciding theirs x rank = if eqb x.code reverse_code then theirs else rank

-- the number of a command in the paper's list
abbrev pub command_number : ℕ → ℕ
command_number code =
    if eqb code lockout_code then 2
    else if eqb code forced_code then 3
    else 4

-- the new command; a clear where something else would be louder; or none
abbrev pub command_for : Request → Request → Bool → ℕ
command_for last x loud =
    if is_new last x then command_number x.code
    else if not (goes_on x) && loud then 1
    else 0

abbrev pub channel_for : Request → Request → ℕ
channel_for last x = if is_new last x then x.channel else 0

-- whether something would be louder than what decides
abbrev pub is_louder : Bool → ℕ → Request → Request → Request → Bool
is_louder hold now last far x =
    louder hold (deciding (rank_of_request far) x (rank_of_request x)) (rank_of_request (held last)) now

-- section 0 failed, or the one section whose request is sent
abbrev pub cause_for : ℕ → Bool → ℕ → ℕ → Request → Request → Bool → Request → Cause
cause_for n hold mask now last far failed x =
    record {
      conditions = if failed then only (suc n) 0 2 else only (suc n) x.channel (bad_for mask x);
      command = command_for last x (is_louder hold now last far x);
      channel = channel_for last x;
    }
