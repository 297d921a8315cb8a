-- Which request is better, and the best of some (01, 'One step', rules 3 and 4; 02, d). The ranks are those of a table that
-- is handed in.
use Rattle.std.specs.Prelude.{if◌then◌else◌, Bool, true, false, ◌&&◌, ◌||◌, List, [], ◌∷◌, ◌⊎◌, ◌≡◌, ℕ, ◌+◌, ◌<◌, ltb, eqb}
use Rattle.request.specs.declared.Request.{Request}

-- RR and NR, of rank 0, never win
abbrev pub may_win : ℕ → Bool
may_win rank = ltb 0 rank

-- compared by rank, then by a lower number: the channel (rule 4), or the turn (rule 3)
abbrev pub better : ℕ → ℕ → ℕ → ℕ → Bool
better rank number rank2 number2 =
    may_win rank && (ltb rank2 rank || eqb rank rank2 && ltb number number2)

-- rule 4, between the ends: by rank, then by lower channel
abbrev pub by_rank : (ℕ → ℕ → ℕ) → Request → Request → Bool
by_rank rank_of a b =
    better (rank_of a.code a.channel) a.channel (rank_of b.code b.channel) b.channel

-- of the same code and channel
abbrev pub same : Request → Request → Bool
same a b = eqb a.code b.code && eqb a.channel b.channel

-- whose turn it is among local conditions of equal rank: section 0 wins its tie; then the one whose code and channel were
-- last sent stays; then come the others, the lower channel first (channel c at c + 1, behind both)
abbrev pub turn : Request → Request → ℕ
turn last x =
    if eqb x.channel 0 then 0
    else if same x last then 1
    else x.channel + 1

-- rule 3 with 02, d, among the candidates for the local request: by rank, then by turn
abbrev pub by_turn : (ℕ → ℕ → ℕ) → Request → Request → Request → Bool
by_turn rank_of last a b =
    better (rank_of a.code a.channel) (turn last a) (rank_of b.code b.channel) (turn last b)

-- the one of two that an order puts first; the second where it puts neither first
abbrev pub better_of : (Request → Request → Bool) → Request → Request → Request
better_of order a b = if order a b then a else b

-- the best of some candidates, where `none` stands if no candidate is better
unfoldable pub best : (Request → Request → Bool) → Request → List Request → Request
best order none [] = none
best order none (x ∷ rest) = best order (better_of order x none) rest

-- x is one of some candidates
abbrev pub OneOf : Request → List Request → Type 0
OneOf x [] = ⊥
OneOf x (y ∷ rest) = (x ≡ y) ⊎ OneOf x rest

-- what the theorems ask of an order, for there to be one best: irreflexive, transitive, the higher rank first and rank 0
-- before nothing, and total on what may win: where neither of two comes first, they have one rank and one channel
pub record Orders (rank : Request → ℕ) (order : Request → Request → Bool) : Type 0 where
  pub irreflexive : (x : Request) → order x x ≡ false
  pub transitive : (x y z : Request) → order x y ≡ true → order y z ≡ true → order x z ≡ true
  pub higher : (x y : Request) → rank y < rank x → order x y ≡ true
  pub never : (x y : Request) → rank x ≡ 0 → order x y ≡ false
  pub total : (x y : Request) → may_win (rank x) ≡ true → may_win (rank y) ≡ true
      → (order x y ≡ true) ⊎ (order y x ≡ true) ⊎ ((rank x ≡ rank y) × (x.channel ≡ y.channel))
