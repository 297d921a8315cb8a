-- What the functions behind the local request ask of each other and promise each other. No promise outside them cites it.
use Rattle.std.specs.Prelude.{if◌then◌else◌, ◌≡◌, Bool, true, List, ◌⊎◌, ℕ, ◌+◌, ◌-◌, ◌<◌, ◌≤◌, eqb, get_or, set}
use Rattle.request.specs.Order.{turn}
use Rattle.request.specs.declared.Request.{Request}
use Rattle.controller.specs.Rules.{no_request, rank_of_request, condition}

-- a request whose code is of a kind, or NR 0
abbrev pub OfKind : (ℕ → Bool) → Request → Type 0
OfKind kind x = (kind x.code ≡ true) ⊎ (x ≡ no_request)

-- what section c asks for, by the conditions of all sections
abbrev pub asks : ℕ → List ℕ → ℕ → Request
asks mask conditions c = condition mask c (get_or conditions c 0)

-- the section whose turn it is: section 0, the one whose request was last sent, the others from 1 up
abbrev pub section_at : Request → ℕ → ℕ
section_at last t = if eqb t 1 then last.channel else t - 1

-- the rank at a turn is that of what the section asks for whose turn it is
pub record AtTurn (mask : ℕ) (conditions : List ℕ) (last : Request) (rank t : ℕ) : Type 0 where
  pub own_turn : turn last (asks mask conditions (section_at last t)) ≡ t
  pub own_rank : rank_of_request (asks mask conditions (section_at last t)) ≡ rank

-- the rank of a request is laid at its turn, and the place behind the last moves on; where it has none, nothing moves
abbrev pub Laid : Request → Request → List ℕ → ℕ → List ℕ → ℕ → Type 0
Laid last x ranks past_last laid past =
    ((rank_of_request x ≡ 0) × (laid ≡ ranks) × (past ≡ past_last))
    ⊎ ((0 < rank_of_request x)
    × (laid ≡ set ranks (turn last x) (rank_of_request x))
    × (past_last ≤ past)
    × (turn last x + 1 ≤ past)
    × ((past ≡ past_last) ⊎ (past ≡ turn last x + 1)))

-- of the sections before c: each that asks for something has its rank at its turn, before `past_last`; no other place has one
pub record Ranked (mask : ℕ) (conditions : List ℕ) (last : Request) (ranks : List ℕ) (c past_last : ℕ) : Type 0 where
  pub rank_is : (i : ℕ) → i < c → 0 < rank_of_request (asks mask conditions i)
      → get_or ranks (turn last (asks mask conditions i)) 0 ≡ rank_of_request (asks mask conditions i)
  pub looked_at : (i : ℕ) → i < c → 0 < rank_of_request (asks mask conditions i)
      → turn last (asks mask conditions i) < past_last
  pub section_is : (t : ℕ) → 0 < get_or ranks t 0
      → (section_at last t < c) × AtTurn mask conditions last (get_or ranks t 0) t
  pub within : past_last ≤ c + 1
