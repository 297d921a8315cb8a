-- Need not be believed: what the functions inside the crate ask of each other and promise each other.
use Rattle.std.specs.Prelude.{◌≡◌, List, ℕ, ◌≤◌, length, map, get_or, drop}
use Rattle.std.proofs.lemmas.List.Edits.{sets}
use Rattle.switches.specs.Changes.{below◌such_that◌, sent_in, changed, changes}

-- the sent K1 of rows of four bytes
abbrev pub sent_of : List (List ℕ) → List ℕ
sent_of rows = map (λ (r : List ℕ). get_or r 2 0) rows

-- the changes among the first steps
abbrev pub first_changes : List ℕ → ℕ → List ℕ
first_changes sent steps = below steps such_that (changed sent)

-- the changes from a step on go into a table behind those before it
pub record Fits (rows : List (List ℕ)) (from known : ℕ) (table : List ℕ) : Type 0 where
  pub inside : from ≤ length rows
  pub small : length rows ≤ 16384
  pub count : known ≡ length (first_changes (sent_of rows) from)
  pub room : length (changes (sent_of rows)) ≤ length table

-- how many there are then, and the table with them
pub record Put (rows : List (List ℕ)) (known number : ℕ) (table after : List ℕ) : Type 0 where
  pub count : number ≡ length (changes (sent_of rows))
  pub content : after ≡ sets table known (drop known (changes (sent_of rows)))

-- the steps of a capture, these or more of them
pub record Rows (bytes : List ℕ) (steps : ℕ) (rows : List (List ℕ)) : Type 0 where
  pub sent : sent_of rows ≡ sent_in bytes
  pub inside : steps ≤ length rows
  pub small : length rows ≤ 16384
