-- The front door: what is proved of the decision on ranks and channels, each theorem in full with the line that cites
-- its proof. `rank_of` is any table of ranks.
use mathlib.Core.Path.{◌≡◌}
use mathlib.Core.Bool.{Bool, true, false}
use mathlib.Core.List.{List}
use mathlib.Core.Logic.{◌⊎◌, inr}
use Prim.Native.Nat.{ℕ, ◌<◌, ◌≤◌}
use Rattle.basics.proofs.One.{OneAnswer, one_value}
use Rattle.request.specs.Order.{better, by_rank, by_turn, best, OneOf, Orders}
use Rattle.request.specs.declared.Request.{Request}
use Rattle.request.proofs.Order.{better_irreflexive, better_transitive, better_total, never_wins}
use Rattle.request.proofs.Order.{best_one, best_above, best_only, best_single, best_asked, rank_orders}
use Rattle.request.proofs.FirstCome.{turn_orders}
use Rattle.request.proofs.Fates.{one_fate}
use Rattle.request.proofs.better.Kinds as better-kinds
use Rattle.request.proofs.better.Reads as better-fn
use Rattle.request.proofs.better.Statement as better-statement
use Rattle.request.proofs.better.Met as better-met
use Rattle.request.proofs.turn.Kinds as turn-kinds
use Rattle.request.proofs.turn.Reads as turn-fn
use Rattle.request.proofs.turn.Statement as turn-statement
use Rattle.request.proofs.turn.Met as turn-met
use Rattle.request.proofs.replaces.Kinds as replaces-kinds
use Rattle.request.proofs.replaces.Reads as replaces
use Rattle.request.proofs.replaces.Statement as replaces-statement
use Rattle.request.proofs.replaces.Met as replaces-met
use Rattle.request.proofs.fate.Kinds as fate-kinds
use Rattle.request.proofs.fate.Reads as fate
use Rattle.request.proofs.fate.Statement as fate-statement
use Rattle.request.proofs.fate.Met as fate-met
use Rattle.request.proofs.wait_now.Kinds as wait-now-kinds
use Rattle.request.proofs.wait_now.Reads as wait-now
use Rattle.request.proofs.wait_now.Statement as wait-now-statement
use Rattle.request.proofs.wait_now.Met as wait-now-met
use Rattle.request.proofs.bridge.Kinds as bridge-kinds
use Rattle.request.proofs.bridge.Reads as bridge
use Rattle.request.proofs.bridge.Statement as bridge-statement
use Rattle.request.proofs.bridge.Met as bridge-met
use Rattle.request.proofs.selector.Kinds as selector-kinds
use Rattle.request.proofs.selector.Reads as selector
use Rattle.request.proofs.selector.Statement as selector-statement
use Rattle.request.proofs.selector.Met as selector-met
use Rattle.request.proofs.command.Fate.number.Kinds as fate-number-kinds
use Rattle.request.proofs.command.Fate.number.Reads as fate-number-fn
use Rattle.request.proofs.command.Fate.number.Statement as fate-number-statement
use Rattle.request.proofs.command.Fate.number.Met as fate-number-met

-- Each public function answers what its definition says, for every input. (`statement` is the contract, as the checker
-- reads it off the source; it asks nothing of the caller.)
better_right : {M : Type 1} → better-statement.statement M
better_right = better-met.met

turn_right : {M : Type 1} → turn-statement.statement M
turn_right = turn-met.met

replaces_right : {M : Type 1} → replaces-statement.statement M
replaces_right = replaces-met.met

fate_right : {M : Type 1} → fate-statement.statement M
fate_right = fate-met.met

fate_number_right : {M : Type 1} → fate-number-statement.statement M
fate_number_right = fate-number-met.met

wait_now_right : {M : Type 1} → wait-now-statement.statement M
wait_now_right = wait-now-met.met

bridge_right : {M : Type 1} → bridge-statement.statement M
bridge_right = bridge-met.met

selector_right : {M : Type 1} → selector-statement.statement M
selector_right = selector-met.met

-- Better is irreflexive and transitive; of two requests above rank 0 that differ in rank or number, be it channel or turn, one
-- is better; and RR and NR, of rank 0, never win.
irreflexive : (r c : ℕ) → better r c r c ≡ false
irreflexive = better_irreflexive

transitive : (r c s d t e : ℕ) → better r c s d ≡ true → better s d t e ≡ true → better r c t e ≡ true
transitive = better_transitive

total : (r c s d : ℕ) → 0 < r → 0 < s → ((r ≡ s) × (c ≡ d) → ⊥) → (better r c s d ≡ true) ⊎ (better s d r c ≡ true)
total = better_total

rank_0_right : (c s d : ℕ) → better 0 c s d ≡ false
rank_0_right = never_wins

-- The best of some candidates, in whatever order, is one of them, or what stands if there is none.
best_right : (order : Request → Request → Bool) (candidates : List Request) (none : Request) →
    let found = best order none candidates in (found ≡ none) ⊎ OneOf found candidates
best_right = best_one

-- In every order by rank that is irreflexive, transitive and total on what may win (`Orders`, of specs/Order), no candidate
-- is better than the best.
best_complete : (rank : Request → ℕ) (order : Request → Request → Bool) → Orders rank order
    → (candidates : List Request) (none x : Request) → OneOf x candidates → order x (best order none candidates) ≡ false
best_complete rank order by candidates none x among =
    best_above order by.irreflexive by.transitive candidates none x (inr among)

-- A candidate that no candidate beats has the rank and the channel of the best.
best_unique : (rank : Request → ℕ) (order : Request → Request → Bool) → Orders rank order
    → (none : Request) (candidates : List Request) (x : Request) → OneOf x candidates → rank none < rank x
    → ((y : Request) → OneOf y candidates → order y x ≡ false) →
    let found = best order none candidates in (rank found ≡ rank x) × (found.channel ≡ x.channel)
best_unique = best_only

-- A single candidate is the best, whatever stands beside it that cannot win.
single_right : (rank : Request → ℕ) (order : Request → Request → Bool) → Orders rank order
    → (none x : Request) → order x none ≡ true → (candidates : List Request)
    → ((y : Request) → OneOf y candidates → (y ≡ x) ⊎ (order y none ≡ false))
    → OneOf x candidates → best order none candidates ≡ x
single_right rank order by = best_single order by.irreflexive by.transitive

-- Ranks may be asked for one by one, from the top: a candidate that has the asked rank, while no candidate has a higher one
-- and it comes before every other of this rank, is the best.
first_hit_right : (rank : Request → ℕ) (order : Request → Request → Bool) → Orders rank order
    → (none : Request) (candidates : List Request) (x : Request) → OneOf x candidates → rank none < rank x
    → ((y : Request) → OneOf y candidates → rank y ≤ rank x)
    → ((y : Request) → OneOf y candidates → rank y ≡ rank x → (y ≡ x) ⊎ (order x y ≡ true))
    → best order none candidates ≡ x
first_hit_right = best_asked

-- Both orders of the paper are such orders: by rank and channel, between the ends; by rank and turn, among local requests,
-- whatever was last sent.
ends_order : (rank_of : ℕ → ℕ → ℕ) → Orders (λ (r : Request). rank_of r.code r.channel) (by_rank rank_of)
ends_order = rank_orders

local_order : (rank_of : ℕ → ℕ → ℕ) (last : Request)
    → Orders (λ (r : Request). rank_of r.code r.channel) (by_turn rank_of last)
local_order = turn_orders

-- Two answers that the promise of a public function allows are equal. (`Post` is the function's `ensures`, as the checker
-- reads it off the source.)
better_unique : OneAnswer 0 better-kinds.ps better-kinds.r better-fn.Post
better_unique κs args x y s t p q = one_value p q

turn_unique : OneAnswer 0 turn-kinds.ps turn-kinds.r turn-fn.Post
turn_unique κs args x y s t p q = one_value p q

replaces_unique : OneAnswer 0 replaces-kinds.ps replaces-kinds.r replaces.Post
replaces_unique κs args x y s t p q = one_value p q

fate_unique : OneAnswer 0 fate-kinds.ps fate-kinds.r fate.Post
fate_unique κs args x y s t p q = one_fate p q

fate_number_unique : OneAnswer 0 fate-number-kinds.ps fate-number-kinds.r fate-number-fn.Post
fate_number_unique κs args x y s t p q = one_value p q

wait_now_unique : OneAnswer 0 wait-now-kinds.ps wait-now-kinds.r wait-now.Post
wait_now_unique κs args x y s t p q = one_value p q

bridge_unique : OneAnswer 0 bridge-kinds.ps bridge-kinds.r bridge.Post
bridge_unique κs args x y s t p q = one_value p q

selector_unique : OneAnswer 0 selector-kinds.ps selector-kinds.r selector.Post
selector_unique κs args x y s t p q = one_value p q
