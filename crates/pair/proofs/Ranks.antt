-- A request has the rank of each row that it stands in, and a usable pair's stands in one. No rank is above 10, and each above
-- 0 is one code's alone.
use mathlib.Core.Path.{◌≡◌, refl, sym, ap, ◌∙◌}
use mathlib.Core.Bool.{Bool, true, false, not, ◌||◌, and-eq-true_iff, false≢true}
use mathlib.Core.List.{List, [], ◌∷◌}
use Prim.Native.Nat.{ℕ, suc, ◌≤◌, ◌<◌, zero-le, suc-le-suc}
use native.Mathlib.Omega.{arith}
use lib.Dec.{eqb, leb, ltb, lit<}
use lib.ListN.{length, get_or}
use borrow.Author.Tests.{eqb-true, leb-true, lt-ltb}
use Rattle.std.specs.Prelude.{if◌then◌else◌, Ok}
use Rattle.basics.specs.Table.{every}
use Rattle.basics.proofs.Table.{at_entry}
use Rattle.pair.specs.Request.{Channels, zero_only, sections, zero_and_sections, Row, row, requests}
use Rattle.pair.specs.Request.{among, stands, carries}
use Rattle.pair.specs.Request.{Class, channel_0, a_section, class_of, includes, rank_in, rank_of}
use Rattle.pair.specs.Marks.{code_of, channel_of}
use Rattle.pair.specs.Coder.{decoding_case, decoding}
use Rattle.pair.specs.declared.Pair.{Pair}
use Rattle.pair.specs.declared.Decoded.TheVariants as decoded
use Rattle.pair.proofs.Coding.{usable_facts}

-- the row at place i of the table
abbrev pub row_at : ℕ → Row
row_at i = get_or requests i (row 0b0000 zero_only 0)

among_class : (channels : Channels) (n c : ℕ) → among channels n c ≡ true → includes channels (class_of c) ≡ true
among_class channels n c h = go (eqb c 0) refl channels h
  where
    go : (t : Bool) → eqb c 0 ≡ t → (ch : Channels) → among ch n c ≡ true → includes ch (class_of c) ≡ true
    go true e zero_only m = rw e
    go true e sections m =
        let z : c ≡ 0 = eqb-true c 0 e in
        let p : 1 ≤ c = leb-true 1 c ((and-eq-true_iff (leb 1 c) (leb c n)).0 m).0 in
        absurd (omega arith)
    go true e zero_and_sections m = rw e
    go false e zero_only m = absurd (false≢true (sym e ∙ m))
    go false e sections m = rw e
    go false e zero_and_sections m = rw e

-- the table gives a row's code the row's rank, for a class that the row includes
abbrev ranked : Class → Row → Bool
ranked class r = not (includes r.channels class) || eqb (rank_in requests class r.code) r.rank

all_ranked : (class : Class) → every (ranked class) requests ≡ true
unfolding rank_in
all_ranked channel_0 = refl
all_ranked a_section = refl

implied : (a b : Bool) → not a || b ≡ true → a ≡ true → b ≡ true
implied true b h a = h
implied false b h a = absurd (false≢true a)

pub row_rank : (n code c i : ℕ) → i < length requests → stands (row_at i) n code c ≡ true → rank_of code c ≡ (row_at i).rank
unfolding rank_of
row_rank n code c i h stood =
    let r = row_at i in
    let parts = (and-eq-true_iff (eqb code r.code) (among r.channels n c)).0 stood in
    let test = at_entry (ranked (class_of c)) requests (row 0b0000 zero_only 0) (all_ranked (class_of c)) i h in
    rw (eqb-true code r.code parts.0)
    (eqb-true (rank_in requests (class_of c) r.code) r.rank
    (implied (includes r.channels (class_of c)) (eqb (rank_in requests (class_of c) r.code) r.rank) test
    (among_class r.channels n c parts.1)))

carried_row : (rows : List Row) (n code c : ℕ) (other : Row) → carries rows n code c ≡ true
    → (i : ℕ) × (i < length rows) × (stands (get_or rows i other) n code c ≡ true)
unfolding carries
carried_row [] n code c other h = absurd (false≢true h)
carried_row (r ∷ rest) n code c other h = go (stands r n code c) refl (carried_row rest n code c other)
  where
    go : (t : Bool) → stands r n code c ≡ t
        → (carries rest n code c ≡ true → (i : ℕ) × (i < length rest) × (stands (get_or rest i other) n code c ≡ true))
        → (i : ℕ) × (i < length (r ∷ rest)) × (stands (get_or (r ∷ rest) i other) n code c ≡ true)
    go true e ih = (0, suc-le-suc zero-le, e)
    go false e ih = let found = ih (rw e at h) in (suc found.0, suc-le-suc found.1, found.2)

-- a rule that holds at rank 0, and which each row keeps, holds of every code and its rank
by_row : (rule : ℕ → ℕ → Bool) → ((code : ℕ) → rule code 0 ≡ true)
    → (rows : List Row) → every (λ (r : Row). rule r.code r.rank) rows ≡ true
    → (class : Class) (code : ℕ) → rule code (rank_in rows class code) ≡ true
unfolding rank_in
by_row rule none [] whole class code = none code
by_row rule none (r ∷ rest) whole class code =
    let both = (and-eq-true_iff (rule r.code r.rank) (every (λ (r : Row). rule r.code r.rank) rest)).0 whole in
    go (eqb code r.code) (includes r.channels class) refl refl both.0 (by_row rule none rest both.1 class code)
  where
    go : (same held : Bool) → eqb code r.code ≡ same → includes r.channels class ≡ held
        → rule r.code r.rank ≡ true → rule code (rank_in rest class code) ≡ true
        → rule code (rank_in (r ∷ rest) class code) ≡ true
    go true true e f here later = rw (e, f) (rw (eqb-true code r.code e) here)
    go true false e f here later = rw (e, f) later
    go false held e f here later = rw e later

-- no rank of the table is above 10
pub rank_most : (code c : ℕ) → rank_of code c ≤ 10
unfolding rank_of
rank_most code c =
    leb-true (rank_of code c) 10 (by_row (λ code rank. leb rank 10) (λ code. refl) requests refl (class_of c) code)

-- the code of the first row that has a rank
abbrev code_at : List Row → ℕ → ℕ
code_at [] rank = 0
code_at (r ∷ rest) rank = if eqb rank r.rank then r.code else code_at rest rank

code_at_lem : (code c : ℕ) → 0 < rank_of code c → code_at requests (rank_of code c) ≡ code
unfolding rank_of
code_at_lem code c some =
    eqb-true (code_at requests (rank_of code c)) code
    (implied (ltb 0 (rank_of code c)) (eqb (code_at requests (rank_of code c)) code)
    (by_row (λ code rank. not (ltb 0 rank) || eqb (code_at requests rank) code) (λ code. refl) requests refl (class_of c) code)
    (lt-ltb 0 (rank_of code c) some))

-- each rank above 0 is one code's alone
pub rank_own : (code c code2 c2 : ℕ) → 0 < rank_of code c → rank_of code c ≡ rank_of code2 c2 → code ≡ code2
rank_own code c code2 c2 some same =
    sym (code_at_lem code c some) ∙ ap (code_at requests) same ∙ code_at_lem code2 c2 (rw (← same) some)

pub fail_outranks : (c : ℕ) → rank_of 0b1110 c < rank_of 0b1101 0
unfolding rank_of rank_in
fail_outranks c = go (eqb c 0) refl
  where
    go : (t : Bool) → eqb c 0 ≡ t → rank_of 0b1110 c < rank_of 0b1101 0
    go true e = rw e (lit< tt)
    go false e = rw e (lit< tt)

pub usable_row : (n k1 k2 : ℕ) (p : Pair) → decoding_case (decoding n k1 k2) ≡ Ok (decoded.Usable p)
    → (i : ℕ) × (i < length requests) × (stands (row_at i) n p.code p.channel ≡ true)
usable_row n k1 k2 p h =
    let facts = usable_facts n k1 k2 p h in
    rw facts.1 (carried_row requests n (code_of k1) (channel_of k1) (row 0b0000 zero_only 0) facts.0.carried)
