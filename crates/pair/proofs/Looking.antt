-- Laws of the table of K1 values, over any list of rows: what is read off a number is what the rows say.
use mathlib.Core.Path.{◌≡◌, refl, sym, ap, subst, ◌∙◌}
use mathlib.Core.Bool.{Bool, true, false, not, ◌&&◌, and-eq-true_iff, false≢true}
use mathlib.Core.List.{List}
use mathlib.Core.Logic.{◌↔◌, ◌⊎◌, inl, inr, ⊎_elim}
use Prim.Native.Nat.{ℕ, zero, suc, ◌+◌, ◌*◌, ◌/◌, ◌%◌, ◌≤◌, ◌<◌}
use native.Mathlib.Omega.{arith}
use lib.Dec.{leb, eqb}
use lib.ListN.{get_or}
use borrow.Author.Tests.{leb-true, le-leb, lt-leb, eqb-true, eqb-false}
use Rattle.basics.specs.Settings.{sections_fit}
use Rattle.basics.proofs.Fitting.{fit_bounds}
use Rattle.basics.proofs.Table.{entry_is}
use Rattle.pair.specs.Request.{Row, requests, channel_0, a_section, class_of, listed, carries, rank_in}
use Rattle.pair.specs.Marks.{code_of, channel_of}
use Rattle.pair.specs.Table.{usable_for, rank_for, least_from, greatest_to, least_of, greatest_of, mark_for, value_of}
use Rattle.pair.specs.Table.{Value, number_of, value_in, number_for, table_of, read_by}
use Rattle.pair.specs.Table.{listed_in, usable_in, read_in}
use Rattle.pair.proofs.Rows.{held_in, carries_0, carries_section, carried_within, carried_listed, unheld, and_true, beyond_carries}

-- the least and the greatest n for which a test holds
module _ (test : ℕ → Bool) where
  least_within : (k i : ℕ) → least_from i k test ≤ i + k
  least_within zero i = omega arith
  least_within (suc k) i = go (test i) refl (least_within k (suc i))
    where
      go : (t : Bool) → test i ≡ t → least_from (suc i) k test ≤ suc i + k → least_from i (suc k) test ≤ i + suc k
      go true e ih = rw e (omega arith)
      go false e ih = rw e (omega arith)

  greatest_within : (k : ℕ) → greatest_to k test ≤ k
  greatest_within zero = omega arith
  greatest_within (suc k) = go (test (suc k)) refl (greatest_within k)
    where
      go : (t : Bool) → test (suc k) ≡ t → greatest_to k test ≤ k → greatest_to (suc k) test ≤ suc k
      go true e ih = rw e (omega arith)
      go false e ih = rw e (omega arith)

  least_holds : (k i : ℕ) → 1 ≤ least_from i k test → test (least_from i k test) ≡ true
  least_holds zero i some = absurd (omega arith)
  least_holds (suc k) i some = go (test i) refl (least_holds k (suc i))
    where
      go : (t : Bool) → test i ≡ t → (1 ≤ least_from (suc i) k test → test (least_from (suc i) k test) ≡ true)
          → test (least_from i (suc k) test) ≡ true
      go true e ih = rw e e
      go false e ih = rw e (ih (rw e at some))

  module _ (n : ℕ) (holds : test n ≡ true) where
    other : (i : ℕ) → test i ≡ false → i ≡ n → ⊥
    other i e same = false≢true (sym e ∙ ap test same ∙ holds)

    least_found : (k i : ℕ) → 1 ≤ i → i ≤ n → n < i + k → (1 ≤ least_from i k test) × (least_from i k test ≤ n)
    least_found zero i some from below = absurd (omega arith)
    least_found (suc k) i some from below = go (test i) refl (least_found k (suc i))
      where
        go : (t : Bool) → test i ≡ t
            → (1 ≤ suc i → suc i ≤ n → n < suc i + k → (1 ≤ least_from (suc i) k test) × (least_from (suc i) k test ≤ n))
            → (1 ≤ least_from i (suc k) test) × (least_from i (suc k) test ≤ n)
        go true e ih = rw e (some, from)
        go false e ih =
            let apart = other i e in rw e (ih (omega arith) (omega (arith, apart)) (omega arith))

    greatest_found : (k : ℕ) → 1 ≤ n → n ≤ k → n ≤ greatest_to k test
    greatest_found zero some within = absurd (omega arith)
    greatest_found (suc k) some within = go (test (suc k)) refl (greatest_found k)
      where
        go : (t : Bool) → test (suc k) ≡ t → (1 ≤ n → n ≤ k → n ≤ greatest_to k test) → n ≤ greatest_to (suc k) test
        go true e ih = rw e within
        go false e ih = let apart = other (suc k) e in rw e (ih some (omega (arith, apart)))

-- a test that goes on holding once it holds does so exactly from the least to the greatest of 1 to 14
module _ (test : ℕ → Bool) (lasts : (m n : ℕ) → m ≤ n → test m ≡ true → test n ≡ true) where
  none_holds : least_from 1 14 test ≡ 0 → (n : ℕ) → 1 ≤ n → n ≤ 14 → test n ≡ false
  none_holds none n some most = go (test n) refl
    where
      go : (t : Bool) → test n ≡ t → test n ≡ false
      go true e = let found = (least_found test n e 14 1 (omega arith) some (omega arith)).0 in absurd (omega arith)
      go false e = e

  between : 1 ≤ least_from 1 14 test → (n : ℕ) → 1 ≤ n → n ≤ 14
      → leb (least_from 1 14 test) n && leb n (greatest_to 14 test) ≡ test n
  between has n some most = go (test n) refl
    where
      go : (t : Bool) → test n ≡ t → leb (least_from 1 14 test) n && leb n (greatest_to 14 test) ≡ test n
      go true e =
          let least : least_from 1 14 test ≤ n = (least_found test n e 14 1 (omega arith) some (omega arith)).1 in
          let greatest : n ≤ greatest_to 14 test = greatest_found test n e 14 some most in
          rw (le-leb (least_from 1 14 test) n least, le-leb n (greatest_to 14 test) greatest) (sym e)
      go false e = below (leb (least_from 1 14 test) n) refl
        where
          below : (b : Bool) → leb (least_from 1 14 test) n ≡ b
              → leb (least_from 1 14 test) n && leb n (greatest_to 14 test) ≡ test n
          below true b =
              absurd
              (false≢true
              (sym e ∙ lasts (least_from 1 14 test) n (leb-true (least_from 1 14 test) n b) (least_holds test 14 1 has)))
          below false b = rw b (sym e)

-- what a code carries in a group it carries in a greater one
pub carried_on : (rows : List Row) (code c m n : ℕ) → m ≤ n → carries rows m code c ≡ true → carries rows n code c ≡ true
carried_on rows code c m n h e = go (eqb c 0) refl
  where
    go : (t : Bool) → eqb c 0 ≡ t → carries rows n code c ≡ true
    go true z =
        let zero : c ≡ 0 = eqb-true c 0 z in
        rw zero (carries_0 rows n code ∙ sym (carries_0 rows m code) ∙ (rw zero at e))
    go false z =
        let some = eqb-false c 0 z in
        let both =
        (and-eq-true_iff (held_in rows a_section code) (leb c m)).0 (sym (carries_section rows m code c some) ∙ e) in
        let within : c ≤ m = leb-true c m both.1 in
        carries_section rows n code c some ∙ rw (both.0, le-leb c n (omega arith))

-- and what it does not carry there, though the group has the channel, has no rank
unheld_rank : (rows : List Row) (code c n : ℕ) → c ≤ n → carries rows n code c ≡ false
    → rank_in rows (class_of c) code ≡ 0
unheld_rank rows code c n within none = go (eqb c 0) refl
  where
    go : (t : Bool) → eqb c 0 ≡ t → rank_in rows (class_of c) code ≡ 0
    go true z =
        let zero : c ≡ 0 = eqb-true c 0 z in
        rw z (unheld rows channel_0 code (sym (carries_0 rows n code) ∙ (rw zero at none)))
    go false z =
        let some = eqb-false c 0 z in
        let held = sym (carries_section rows n code c some) ∙ none in
        rw z (unheld rows a_section code (rw (le-leb c n within, and_true (held_in rows a_section code)) at held))

-- no group has a channel above 14
pub carried_most : (rows : List Row) (n code c : ℕ) → sections_fit n ≡ true → carries rows n code c ≡ true → c ≤ 14
carried_most rows n code c fits e =
    let within = carried_within rows n code c e in
    let most = (fit_bounds n fits).1 in
    omega (arith, within, most)

-- digits that fit are read back
digits : (r l g m : ℕ) → l < 16 → g < 16 → m < 16
    → value_in (r * 4096 + l * 256 + g * 16 + m) ≡ record { rank = r; least = l; greatest = g; mark = m }
digits r l g m hl hg hm =
    let rank : (r * 4096 + l * 256 + g * 16 + m) / 4096 ≡ r = omega arith in
    let least : (r * 4096 + l * 256 + g * 16 + m) / 256 % 16 ≡ l = omega arith in
    let greatest : (r * 4096 + l * 256 + g * 16 + m) / 16 % 16 ≡ g = omega arith in
    let mark : (r * 4096 + l * 256 + g * 16 + m) % 16 ≡ m = omega arith in
    λ i. record { rank = rank i; least = least i; greatest = greatest i; mark = mark i }

module _ (rows : List Row) (k1 : ℕ) where
  mark_below : mark_for rows k1 < 16
  mark_below = go (listed rows (code_of k1)) refl
    where
      go : (t : Bool) → listed rows (code_of k1) ≡ t → mark_for rows k1 < 16
      go true e = rw e (omega arith)
      go false e = rw e (omega arith)

  usable_on : (m n : ℕ) → m ≤ n → usable_for rows k1 m ≡ true → usable_for rows k1 n ≡ true
  usable_on = carried_on rows (code_of k1) (channel_of k1)

  -- what is held of a K1 comes back from its number
  pub value_back : value_in (number_for rows k1) ≡ value_of rows k1
  unfolding number_for
  value_back = go (eqb (least_of rows k1) 0) refl
    where
      least : least_of rows k1 ≤ 15
      least = least_within (usable_for rows k1) 14 1

      greatest : greatest_of rows k1 ≤ 14
      greatest = greatest_within (usable_for rows k1) 14

      go : (t : Bool) → eqb (least_of rows k1) 0 ≡ t → value_in (number_of (value_of rows k1)) ≡ value_of rows k1
      go true e = rw e (digits 0 0 0 (mark_for rows k1) (omega arith) (omega arith) mark_below)
      go false e =
          rw e
          (digits (rank_for rows k1) (least_of rows k1) (greatest_of rows k1) 0 (omega (arith, least)) (omega (arith, greatest))
          (omega arith))

  -- in a group of 1 to 14 sections its least and greatest n say whether it is usable
  value_usable : (n : ℕ) → sections_fit n ≡ true
      → leb (value_of rows k1).least n && leb n (value_of rows k1).greatest ≡ usable_for rows k1 n
  value_usable n fits = go (eqb (least_of rows k1) 0) refl
    where
      bounds : (1 ≤ n) × (n ≤ 14)
      bounds = fit_bounds n fits

      go : (t : Bool) → eqb (least_of rows k1) 0 ≡ t
          → leb (value_of rows k1).least n && leb n (value_of rows k1).greatest ≡ usable_for rows k1 n
      go true e =
          let none : least_of rows k1 ≡ 0 = eqb-true (least_of rows k1) 0 e in
          let above : leb n 0 ≡ false = lt-leb n 0 (omega (arith, bounds.0)) in
          rw (e, le-leb 0 n (omega arith), above)
          (sym (none_holds (usable_for rows k1) usable_on none n bounds.0 bounds.1))
      go false e =
          let some = eqb-false (least_of rows k1) 0 e in
          rw e (between (usable_for rows k1) usable_on (omega (arith, some)) n bounds.0 bounds.1)

  pub usable_looked : (n : ℕ) → sections_fit n ≡ true → usable_in (number_for rows k1) n ≡ usable_for rows k1 n
  usable_looked n fits =
      ap (λ (v : Value). leb v.least n && leb n v.greatest) value_back ∙ value_usable n fits

  -- one that is usable for some n has a code of the rows
  least_listed : 1 ≤ least_of rows k1 → listed rows (code_of k1) ≡ true
  least_listed some =
      carried_listed rows (least_of rows k1) (code_of k1) (channel_of k1) (least_holds (usable_for rows k1) 14 1 some)

  pub listed_looked : listed_in (number_for rows k1) ≡ listed rows (code_of k1)
  listed_looked =
      ap (λ (v : Value). not (eqb v.mark 3)) value_back ∙ go (eqb (least_of rows k1) 0) (listed rows (code_of k1)) refl refl
    where
      go : (z l : Bool) → eqb (least_of rows k1) 0 ≡ z → listed rows (code_of k1) ≡ l
          → not (eqb (value_of rows k1).mark 3) ≡ listed rows (code_of k1)
      go true true e f = rw (e, f)
      go true false e f = rw (e, f)
      go false l e f =
          let some = eqb-false (least_of rows k1) 0 e in rw e (sym (least_listed (omega (arith, some))))

  -- the rank of one whose channel some group has; one that no row holds has none
  pub rank_looked : channel_of k1 ≤ 14 → (value_in (number_for rows k1)).rank ≡ rank_for rows k1
  rank_looked within = ap (λ (v : Value). v.rank) value_back ∙ go (eqb (least_of rows k1) 0) refl
    where
      go : (t : Bool) → eqb (least_of rows k1) 0 ≡ t → (value_of rows k1).rank ≡ rank_for rows k1
      go true e =
          let none : least_of rows k1 ≡ 0 = eqb-true (least_of rows k1) 0 e in
          let unusable = none_holds (usable_for rows k1) usable_on none 14 (omega arith) (omega arith) in
          rw e (sym (unheld_rank rows (code_of k1) (channel_of k1) 14 within unusable))
      go false e = rw e

  -- the table's reading is the rows'
  pub read_looked : (n : ℕ) → sections_fit n ≡ true → read_in (number_for rows k1) n ≡ read_by rows n k1
  read_looked n fits = go (usable_for rows k1 n) refl
    where
      go : (t : Bool) → usable_for rows k1 n ≡ t → read_in (number_for rows k1) n ≡ read_by rows n k1
      go true e =
          let within = carried_most rows n (code_of k1) (channel_of k1) fits e in
          rw (listed_looked, usable_looked n fits, e, rank_looked within)
      go false e = rw (listed_looked, usable_looked n fits, e)

  pub number_at : k1 < 256 → get_or (table_of rows) k1 0 ≡ number_for rows k1
  unfolding table_of
  number_at below = entry_is (number_for rows) 256 k1 below

  -- with a mark it is usable for no n, without one for those from its least to its greatest
  value_kinds : (((value_of rows k1).mark ≡ 3) ⊎ ((value_of rows k1).mark ≡ 4) ⊎ ((value_of rows k1).mark ≡ 0))
      × (((value_of rows k1).mark ≡ 0) ↔ (1 ≤ (value_of rows k1).least))
  value_kinds = go (eqb (least_of rows k1) 0) (listed rows (code_of k1)) refl refl
    where
      go : (z l : Bool) → eqb (least_of rows k1) 0 ≡ z → listed rows (code_of k1) ≡ l
          → (((value_of rows k1).mark ≡ 3) ⊎ ((value_of rows k1).mark ≡ 4) ⊎ ((value_of rows k1).mark ≡ 0))
          × (((value_of rows k1).mark ≡ 0) ↔ (1 ≤ (value_of rows k1).least))
      go true true e f = rw (e, f) (inr (inl refl), (λ m. absurd (omega arith), λ h. absurd (omega arith)))
      go true false e f = rw (e, f) (inl refl, (λ m. absurd (omega arith), λ h. absurd (omega arith)))
      go false l e f =
          let some = eqb-false (least_of rows k1) 0 e in
          rw e (inr (inr refl), (λ m. omega (arith, some), λ h. refl))

  pub number_kinds :
      let v = value_in (number_for rows k1) in
      (v.mark ≡ 3) ⊎ (v.mark ≡ 4) ⊎ (v.mark ≡ 0)
  number_kinds =
      subst (λ (v : Value). (v.mark ≡ 3) ⊎ (v.mark ≡ 4) ⊎ (v.mark ≡ 0)) (sym value_back) value_kinds.0

  value_marked : (n : ℕ) → sections_fit n ≡ true → ((value_of rows k1).mark ≡ 3) ⊎ ((value_of rows k1).mark ≡ 4)
      → usable_for rows k1 n ≡ false
  value_marked n fits m = go (eqb (least_of rows k1) 0) refl
    where
      go : (t : Bool) → eqb (least_of rows k1) 0 ≡ t → usable_for rows k1 n ≡ false
      go true e =
          none_holds (usable_for rows k1) usable_on (eqb-true (least_of rows k1) 0 e) n (fit_bounds n fits).0 (fit_bounds n fits).1
      go false e =
          let none : ((value_of rows k1).mark ≡ 3) ⊎ ((value_of rows k1).mark ≡ 4) → ⊥ =
          rw e (⊎_elim (λ h. omega arith) (λ h. omega arith)) in
          absurd (none m)

  value_exact : (n : ℕ) → sections_fit n ≡ true
      → (usable_for rows k1 n ≡ true) ↔ (((value_of rows k1).least ≤ n) × (n ≤ (value_of rows k1).greatest))
  value_exact n fits = (forward, backward)
    where
      forward : usable_for rows k1 n ≡ true → ((value_of rows k1).least ≤ n) × (n ≤ (value_of rows k1).greatest)
      forward e =
          let both =
          (and-eq-true_iff (leb (value_of rows k1).least n) (leb n (value_of rows k1).greatest)).0
          (value_usable n fits ∙ e) in
          (leb-true (value_of rows k1).least n both.0, leb-true n (value_of rows k1).greatest both.1)

      backward : ((value_of rows k1).least ≤ n) × (n ≤ (value_of rows k1).greatest) → usable_for rows k1 n ≡ true
      backward h =
          sym (value_usable n fits)
          ∙ rw (le-leb (value_of rows k1).least n h.0, le-leb n (value_of rows k1).greatest h.1)

-- the same of a table of the rows
module _ (table : List ℕ) (rows : List Row) (whole : table ≡ table_of rows) (k1 : ℕ) where
  number_in : k1 < 256 → get_or table k1 0 ≡ number_for rows k1
  number_in below = ap (λ (t : List ℕ). get_or t k1 0) whole ∙ number_at rows k1 below

  value_at : k1 < 256 → value_in (get_or table k1 0) ≡ value_of rows k1
  value_at below = ap value_in (number_in below) ∙ value_back rows k1

  pub table_read : (n : ℕ) → k1 < 256 → sections_fit n ≡ true → read_in (get_or table k1 0) n ≡ read_by rows n k1
  table_read n below fits = ap (λ (v : ℕ). read_in v n) (number_in below) ∙ read_looked rows k1 n fits

  pub table_marked : (n : ℕ) → k1 < 256 → sections_fit n ≡ true →
      let v = value_in (get_or table k1 0) in
      (v.mark ≡ 3) ⊎ (v.mark ≡ 4) → usable_for rows k1 n ≡ false
  table_marked n below fits =
      subst (λ (v : Value). (v.mark ≡ 3) ⊎ (v.mark ≡ 4) → usable_for rows k1 n ≡ false) (sym (value_at below))
      (value_marked rows k1 n fits)

  pub table_usable : (n : ℕ) → k1 < 256 → sections_fit n ≡ true →
      let v = value_in (get_or table k1 0) in
      (usable_for rows k1 n ≡ true) ↔ ((v.least ≤ n) × (n ≤ v.greatest))
  table_usable n below fits =
      subst (λ (v : Value). (usable_for rows k1 n ≡ true) ↔ ((v.least ≤ n) × (n ≤ v.greatest))) (sym (value_at below))
      (value_exact rows k1 n fits)

  pub table_kinds : k1 < 256 →
      let v = value_in (get_or table k1 0) in
      ((v.mark ≡ 3) ⊎ (v.mark ≡ 4) ⊎ (v.mark ≡ 0)) × ((v.mark ≡ 0) ↔ (1 ≤ v.least))
  table_kinds below =
      subst
      (λ (v : Value). ((v.mark ≡ 3) ⊎ (v.mark ≡ 4) ⊎ (v.mark ≡ 0)) × ((v.mark ≡ 0) ↔ (1 ≤ v.least)))
      (sym (value_at below)) (value_kinds rows k1)

-- a code carries no channel that has no room beside it in a K1, be it the code or the channel that has none
pub code_beyond : (n code c : ℕ) → 16 ≤ code → carries requests n code c ≡ false
code_beyond n code c above = beyond_carries 16 code above requests n c refl

pub channel_beyond : (n code c : ℕ) → sections_fit n ≡ true → 16 ≤ c → carries requests n code c ≡ false
channel_beyond n code c fits above = go (carries requests n code c) refl
  where
    go : (t : Bool) → carries requests n code c ≡ t → carries requests n code c ≡ false
    go true e = let most = carried_most requests n code c fits e in absurd (omega arith)
    go false e = e

-- and whether it carries another is read off the table
pub carried_looked : (n code c : ℕ) → sections_fit n ≡ true → c < 16
    → usable_in (number_for requests (code * 16 + c)) n ≡ carries requests n code c
carried_looked n code c fits room =
    let code_back : code_of (code * 16 + c) ≡ code = omega arith in
    let channel_back : channel_of (code * 16 + c) ≡ c = omega arith in
    rw (code_back, channel_back) at (usable_looked requests (code * 16 + c) n fits)
