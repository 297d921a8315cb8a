-- Laws of a list of rows: what a code carries, and its rank, by the class of the channel.
use mathlib.Core.Path.{◌≡◌, refl, sym, ap, ◌∙◌}
use mathlib.Core.Bool.{Bool, true, false, ◌&&◌, ◌||◌, and-eq-true_iff, false≢true}
use mathlib.Core.List.{List, [], ◌∷◌}
use Prim.Native.Nat.{ℕ, ◌≤◌, ◌<◌}
use native.Mathlib.Omega.{arith}
use lib.Dec.{leb, ltb, eqb, leb-zero}
use borrow.Author.Tests.{ltb-true, ltb-false, leb-true, eqb-true, eqb-false, eq-eqb, ne_eqb, le-leb}
use lib.ListN.{get_or}
use Rattle.basics.specs.Table.{every, values}
use Rattle.basics.proofs.Table.{entry_is}
use Rattle.pair.specs.Request.{Channels, zero_only, sections, zero_and_sections, Row, requests, among, listed, carries}
use Rattle.pair.specs.Request.{Class, channel_0, a_section, class_of, includes, rank_in, rank_of}

-- some row has the code and includes the class
unfoldable pub held_in : List Row → Class → ℕ → Bool
held_in [] class code = false
held_in (r ∷ rest) class code = eqb code r.code && includes r.channels class || held_in rest class code

-- and where none has, there is no rank
pub unheld : (rows : List Row) (class : Class) (code : ℕ) → held_in rows class code ≡ false → rank_in rows class code ≡ 0
unfolding held_in rank_in
unheld [] class code none = refl
unheld (r ∷ rest) class code none =
    go (eqb code r.code && includes r.channels class) refl (unheld rest class code)
  where
    go : (t : Bool) → eqb code r.code && includes r.channels class ≡ t
        → (held_in rest class code ≡ false → rank_in rest class code ≡ 0)
        → rank_in (r ∷ rest) class code ≡ 0
    go true e ih = absurd (false≢true (sym (rw e at none)))
    go false e ih = rw e (ih (rw e at none))

among_0 : (channels : Channels) (n : ℕ) → among channels n 0 ≡ includes channels channel_0
among_0 zero_only n = refl
among_0 sections n = refl
among_0 zero_and_sections n = leb-zero n

among_section : (channels : Channels) (n c : ℕ) → (c ≡ 0 → ⊥) → among channels n c ≡ includes channels a_section && leb c n
among_section zero_only n c h = ne_eqb c 0 h
among_section sections n c h = rw (le-leb 1 c (omega arith))
among_section zero_and_sections n c h = refl

pub carries_0 : (rows : List Row) (n code : ℕ) → carries rows n code 0 ≡ held_in rows channel_0 code
unfolding carries held_in
carries_0 [] n code = refl
carries_0 (r ∷ rest) n code =
    rw among_0 (ap (λ (o : Bool). eqb code r.code && includes r.channels channel_0 || o) (carries_0 rest n code))

regroup : (e h o l : Bool) → e && (h && l) || o && l ≡ (e && h || o) && l
regroup true true true true = refl
regroup true true true false = refl
regroup true true false true = refl
regroup true true false false = refl
regroup true false o l = refl
regroup false h o l = refl

pub carries_section : (rows : List Row) (n code c : ℕ) → (c ≡ 0 → ⊥)
    → carries rows n code c ≡ held_in rows a_section code && leb c n
unfolding carries held_in
carries_section [] n code c h = refl
carries_section (r ∷ rest) n code c h =
    rw (among_section r.channels n c h)
    (ap (λ (o : Bool). eqb code r.code && (includes r.channels a_section && leb c n) || o)
    (carries_section rest n code c h)
    ∙ regroup (eqb code r.code) (includes r.channels a_section) (held_in rest a_section code) (leb c n))

pub and_true : (b : Bool) → b && true ≡ b
and_true true = refl
and_true false = refl

abbrev pub code_below : ℕ → Row → Bool
code_below bound r = ltb r.code bound

-- a code that no row reaches carries nothing, and has rank 0
module _ (bound code : ℕ) (above : bound ≤ code) where
  other : (r : Row) → code_below bound r ≡ true → eqb code r.code ≡ false
  other r h =
      let below : r.code < bound = ltb-true r.code bound h in
      ne_eqb code r.code (omega arith)

  pub beyond_carries : (rows : List Row) (n c : ℕ) → every (code_below bound) rows ≡ true → carries rows n code c ≡ false
  unfolding carries
  beyond_carries [] n c h = refl
  beyond_carries (r ∷ rest) n c h =
      let both = (and-eq-true_iff (code_below bound r) (every (code_below bound) rest)).0 h in
      rw (other r both.0) (beyond_carries rest n c both.1)

  pub beyond_rank : (rows : List Row) (class : Class) → every (code_below bound) rows ≡ true → rank_in rows class code ≡ 0
  unfolding rank_in
  beyond_rank [] class h = refl
  beyond_rank (r ∷ rest) class h =
      let both = (and-eq-true_iff (code_below bound r) (every (code_below bound) rest)).0 h in
      rw (other r both.0) (beyond_rank rest class both.1)

-- what a request that stands in some row cannot pass
pub carried_below : (bound : ℕ) (rows : List Row) (n code c : ℕ) → every (code_below bound) rows ≡ true
    → carries rows n code c ≡ true → code < bound
carried_below bound rows n code c below h = go (ltb code bound) refl
  where
    go : (t : Bool) → ltb code bound ≡ t → code < bound
    go true e = ltb-true code bound e
    go false e = absurd (false≢true (sym (beyond_carries bound code (ltb-false code bound e) rows n c below) ∙ h))

pub carried_within : (rows : List Row) (n code c : ℕ) → carries rows n code c ≡ true → c ≤ n
carried_within rows n code c h = go (eqb c 0) refl
  where
    go : (t : Bool) → eqb c 0 ≡ t → c ≤ n
    go true e = let z : c ≡ 0 = eqb-true c 0 e in omega arith
    go false e =
        leb-true c n
        ((and-eq-true_iff (held_in rows a_section code) (leb c n)).0
        (sym (carries_section rows n code c (eqb-false c 0 e)) ∙ h)).1

pub carried_listed : (rows : List Row) (n code c : ℕ) → carries rows n code c ≡ true → listed rows code ≡ true
unfolding carries listed
carried_listed [] n code c h = h
carried_listed (r ∷ rest) n code c h = go (eqb code r.code) refl (carried_listed rest n code c)
  where
    go : (t : Bool) → eqb code r.code ≡ t → (carries rest n code c ≡ true → listed rest code ≡ true)
        → listed (r ∷ rest) code ≡ true
    go true e ih = rw e
    go false e ih = rw e (ih (rw e at h))

-- no row of the requests has a code beyond a half of a K1, and the rank of another class or code stands in its table
pub rank_beyond : (code c : ℕ) → 16 ≤ code → rank_of code c ≡ 0
unfolding rank_of
rank_beyond code c beyond = beyond_rank 16 code beyond requests (class_of c) refl

pub rank_at_0 : (code c : ℕ) → c ≡ 0 → code < 16 → get_or (values (rank_in requests channel_0) 16) code 0 ≡ rank_of code c
unfolding rank_of
rank_at_0 code c zero below = rw (eq-eqb c 0 zero) (entry_is (rank_in requests channel_0) 16 code below)

pub rank_at_section : (code c : ℕ) → (c ≡ 0 → ⊥) → code < 16
    → get_or (values (rank_in requests a_section) 16) code 0 ≡ rank_of code c
unfolding rank_of
rank_at_section code c some below = rw (ne_eqb c 0 some) (entry_is (rank_in requests a_section) 16 code below)
