-- The front door: what is proved of the switches, each theorem in full with the line that cites its proof.
use mathlib.Core.Path.{◌≡◌, refl}
use mathlib.Core.List.{List, [], ◌∷◌, ◌++◌}
use mathlib.Core.Logic.{◌↔◌, ◌⊎◌}
use Prim.Native.Nat.{ℕ, ◌%◌, ◌≤◌, ◌<◌}
use lib.ListN.{length, get_or, take}
use Rattle.basics.specs.Capture.{most}
use Rattle.basics.proofs.One.{OneAnswer, OneContent, one_value, one_case}
use Rattle.switches.specs.Changes.{below◌such_that◌, sent_in, changed, changes, Stands}
use Rattle.switches.specs.Extend.{extending, extended}
use Rattle.switches.specs.LastChange.{looking}
use Rattle.switches.proofs.Sent.{change_listed, listed_change, changes_rise}
use Rattle.switches.proofs.Grown.{whole_list, stays_elsewhere, untouched, afresh, afresh_all, same_answer, same_table}
use Rattle.switches.proofs.Greatest.{greatest, none_exactly}
use Rattle.switches.proofs.extend.Kinds as extend-kinds
use Rattle.switches.proofs.extend.Reads as extend-fn
use Rattle.switches.proofs.extend.Statement as extend-statement
use Rattle.switches.proofs.extend.Met as extend-met
use Rattle.switches.proofs.last_change.Kinds as last-change-kinds
use Rattle.switches.proofs.last_change.Reads as last-change-fn
use Rattle.switches.proofs.last_change.Statement as last-change-statement
use Rattle.switches.proofs.last_change.Met as last-change-met

-- Each public function answers, and leaves in the table, what its definition says, for every input. (`statement` is the
-- contract, as the checker reads it off the source; it asks nothing of the caller.)
extend_right : {M : Type 1} → extend-statement.statement M
extend_right = extend-met.met

last_change_right : {M : Type 1} → last-change-statement.statement M
last_change_right = last-change-met.met

-- Two answers that the promise of a function allows are equal, and so are two contents of the table. (`Post` is the
-- function's `ensures`.)
extend_unique : OneAnswer 2 extend-kinds.ps extend-kinds.r extend-fn.Post
extend_unique κs args x y s t p q = one_case p.0 q.0

table_unique : OneContent 2 extend-kinds.ps extend-kinds.r extend-fn.Post (λ κs exit. exit.1.1.1.0.now)
table_unique κs args x y s t p q = one_value p.1 q.1

last_change_unique : OneAnswer 2 last-change-kinds.ps last-change-kinds.r last-change-fn.Post
last_change_unique κs args x y s t p q = one_case p q

-- Every listed step is a change, and every change is listed; and they rise. (`sent` is the row of sent K1, and stands behind
-- 00 where it is one step late.)
listed_right : (sent : List ℕ) (step : ℕ) → Stands step (changes sent)
    → (step < length sent) × (get_or sent step 0 ≡ get_or (0x00 ∷ sent) step 0 → ⊥)
listed_right = listed_change

listed_complete : (sent : List ℕ) (step : ℕ) → step < length sent
    → (get_or sent step 0 ≡ get_or (0x00 ∷ sent) step 0 → ⊥) → Stands step (changes sent)
listed_complete = change_listed

listed_rising : (sent : List ℕ) (i j : ℕ) → i < j → j < length (changes sent)
    → get_or (changes sent) i 0 < get_or (changes sent) j 0
listed_rising = changes_rise

-- The paper's first capture sends A2, A2, 62.
listed_example : changes (0xA2 ∷ 0xA2 ∷ 0x62 ∷ []) ≡ 0 ∷ 2 ∷ []
unfolding below◌such_that◌ changed
listed_example = refl

-- A list that is extended is the whole list of the capture, and the answer its length; the entries below `count`, and those
-- from that length on, are as they were. Refused, the whole table is.
whole_right : (bytes : List ℕ) (listed count : ℕ) (table : List ℕ) → (extending bytes listed count table).refusal ≡ 0
    → ((extending bytes listed count table).number ≡ length (changes (sent_in bytes)))
    × (take (length (changes (sent_in bytes))) (extended bytes listed count table) ≡ changes (sent_in bytes))
whole_right = whole_list

stays_right : (bytes : List ℕ) (listed count : ℕ) (table : List ℕ) → (extending bytes listed count table).refusal ≡ 0
    → (length (extended bytes listed count table) ≡ length table)
    × ((i : ℕ) → (i < count) ⊎ (length (changes (sent_in bytes)) ≤ i)
    → get_or (extended bytes listed count table) i 0 ≡ get_or table i 0)
stays_right = stays_elsewhere

refused_right : (bytes : List ℕ) (listed count : ℕ) (table : List ℕ)
    → ((extending bytes listed count table).refusal ≡ 0 → ⊥)
    → (extended bytes listed count table ≡ table) × ((extending bytes listed count table).number ≡ 0)
refused_right = untouched

-- A list made afresh is refused for nothing but the capture's size and a table that is too short; and 16,384 entries are enough
-- for every capture.
afresh_right : (bytes table : List ℕ) → length bytes % 4 ≡ 0 → length bytes ≤ most
    → length (changes (sent_in bytes)) ≤ length table → (extending bytes 0 0 table).refusal ≡ 0
afresh_right = afresh

afresh_complete : (bytes table : List ℕ) → length bytes % 4 ≡ 0 → length bytes ≤ most → 16384 ≤ length table
    → (extending bytes 0 0 table).refusal ≡ 0
afresh_complete = afresh_all

-- Steps appended, whatever the split: the list before, handed in, is extended to what one go makes of all steps, the answer,
-- refusals included, and the whole table. Where the list before was made afresh, `listed` and `count` are 0.
grown_right : (old more : List ℕ) (listed count : ℕ) (table : List ℕ) → (extending old listed count table).refusal ≡ 0 →
    let number = (extending old listed count table).number in
    let between = extended old listed count table in
    extending (old ++ more) (length (sent_in old)) number between ≡ extending (old ++ more) listed count table
grown_right = same_answer

grown_table : (old more : List ℕ) (listed count : ℕ) (table : List ℕ) → (extending old listed count table).refusal ≡ 0
    → (extending (old ++ more) listed count table).refusal ≡ 0 →
    let number = (extending old listed count table).number in
    let between = extended old listed count table in
    extended (old ++ more) (length (sent_in old)) number between ≡ extended (old ++ more) listed count table
grown_table = same_table

-- The last change is the greatest listed step that is not above the given one; and there is none exactly if no listed step is
-- not above it.
last_right : (bytes list : List ℕ) (step : ℕ) → (looking bytes list step).refusal ≡ 0
    → (looking bytes list step).found ≡ 1 →
    let c = (looking bytes list step).step in
    Stands c list × (c ≤ step) × ((d : ℕ) → Stands d list → d ≤ step → d ≤ c)
last_right = greatest

last_complete : (bytes list : List ℕ) (step : ℕ) → (looking bytes list step).refusal ≡ 0
    → ((looking bytes list step).found ≡ 0) ↔ ((d : ℕ) → Stands d list → d ≤ step → ⊥)
last_complete = none_exactly
