-- What it means that a refusal is 0: none of the checks applies, so that each of their facts holds.
use mathlib.Core.Path.{◌≡◌, refl, sym, ◌∙◌}
use mathlib.Core.Bool.{Bool, true, false, not, ◌&&◌, and-eq-true_iff}
use mathlib.Core.List.{List, [], ◌∷◌, ◌++◌}
use Prim.Native.Nat.{ℕ, ◌+◌, ◌*◌, ◌≤◌, ◌<◌}
use native.Mathlib.Omega.{arith}
use lib.Dec.{ltb, eqb}
use lib.ListN.{length, get_or}
use borrow.Author.Tests.{leb-true, ltb-false, eqb-true, eqb-false, lt-ltb, le-ltb, eq-eqb, not-false}
use Rattle.std.specs.Prelude.{if◌then◌else◌}
use Rattle.basics.specs.First.{◌when◌, first_of}
use Rattle.basics.specs.Settings.{sections_fit, mask_fits}
use Rattle.basics.specs.Table.{every}
use Rattle.basics.proofs.First.{numbered, none_exact, none_both, first_behind, first_before}
use Rattle.book.specs.Format.{first_body, body_end, hold_in, spare_fits, settings_fit, settings_faults, most, count_in}
use Rattle.book.specs.Reader.{head_faults, place_faults, entry_faults}
use Rattle.book.specs.Writer.{counted, steps_of, size, entries_faults, size_faults, write_refusal}
use Rattle.book.specs.declared.Entry.{Entry}
use Rattle.book.specs.declared.Contents.{Contents}

equal : (a b : ℕ) → not (eqb a b) ≡ false → a ≡ b
equal a b e = eqb-true a b (not-false (eqb a b) e)

-- the head of a book has no fault
pub record Headed (book : List ℕ) : Type 0 where
  pub small : length book ≤ most
  pub long : 2 ≤ length book
  pub one : get_or book 0 0 ≡ 1
  pub few : count_in book ≤ 64
  pub uncut : first_body (count_in book) ≤ length book

pub headed : (book : List ℕ) → first_of (head_faults book) ≡ 0 → Headed book
headed book e =
    let none = (none_exact (head_faults book) refl).0 e in
    record {
      small = ltb-false most (length book) (none 0);
      long = ltb-false (length book) 2 (none 1);
      one = equal (get_or book 0 0) 1 (none 2);
      few = ltb-false 64 (count_in book) (none 3);
      uncut = ltb-false (length book) (first_body (count_in book)) (none 4);
    }

-- settings that fit are those of which none of 25, 31 and 32 applies, of one entry and of all
pub fit_each : (e : Entry) → settings_fit e ≡ true
    → (spare_fits e ≡ true) × (sections_fit e.n ≡ true) × (mask_fits e.n e.mask ≡ true)
fit_each e fits =
    let both = (and-eq-true_iff (spare_fits e && sections_fit e.n) (mask_fits e.n e.mask)).0 fits in
    let first = (and-eq-true_iff (spare_fits e) (sections_fit e.n)).0 both.0 in
    (first.0, first.1, both.1)

pub fit_spare : (e : Entry) → settings_fit e ≡ true → e.spare ≤ 1
fit_spare e fits = leb-true e.spare 1 (fit_each e fits).0

pub fit_hold : (e : Entry) → settings_fit e ≡ true → e.spare ≡ (if hold_in e then 1 else 0)
fit_hold e fits = go (hold_in e) refl
  where
    go : (t : Bool) → hold_in e ≡ t → e.spare ≡ (if t then 1 else 0)
    go true h = eqb-true e.spare 1 h
    go false h = omega (arith, fit_spare e fits, eqb-false e.spare 1 h)

pub fit_every : (e : Entry) (rest : List Entry) → every settings_fit (e ∷ rest) ≡ true
    → (settings_fit e ≡ true) × (every settings_fit rest ≡ true)
fit_every e rest all = (and-eq-true_iff (settings_fit e) (every settings_fit rest)).0 all

fits_none : (e : Entry) → first_of (settings_faults e) ≡ 0 → settings_fit e ≡ true
fits_none e none =
    let each = (none_exact (settings_faults e) refl).0 none in
    rw (
      not-false (spare_fits e) (each 0),
      not-false (sections_fit e.n) (each 1),
      not-false (mask_fits e.n e.mask) (each 2),
    )

entries_numbered : (entries : List Entry) → numbered (entries_faults entries) ≡ true
unfolding entries_faults
entries_numbered [] = refl
entries_numbered (e ∷ rest) = entries_numbered rest

pub all_fit : (entries : List Entry) → first_of (entries_faults entries) ≡ 0 → every settings_fit entries ≡ true
unfolding entries_faults
all_fit [] none = refl
all_fit (e ∷ rest) none =
    let both = none_both (settings_faults e) (entries_faults rest) refl none in
    rw (fits_none e both.0) (all_fit rest both.1)

fit_all : (entries : List Entry) → every settings_fit entries ≡ true → first_of (entries_faults entries) ≡ 0
unfolding entries_faults
fit_all [] all = refl
fit_all (e ∷ rest) all =
    let parts = fit_every e rest all in
    let each = fit_each e parts.0 in
    rw (each.0, each.1, each.2) (fit_all rest parts.1)

-- an entry whose body belongs at a place has no fault
pub record Sound (size at : ℕ) (e : Entry) : Type 0 where
  pub fits : settings_fit e ≡ true
  pub there : e.offset ≡ at
  pub inside : body_end at e ≤ size

pub sound : (size at : ℕ) (e : Entry) → first_of (entry_faults size at e) ≡ 0 → Sound size at e
sound size at e h =
    let both = none_both (settings_faults e) (place_faults size at e) refl h in
    let none = (none_exact (place_faults size at e) refl).0 both.1 in
    record {
      fits = fits_none e both.0;
      there = equal e.offset at (none 0);
      inside = ltb-false size (body_end at e) (none 1);
    }

-- the refusal of the settings, and behind it the others
module _ (size at : ℕ) (e : Entry) (settings : ℕ) (asked : settings ≡ first_of (settings_faults e)) where
  pub entry_settings : (settings ≡ 0 → ⊥) → settings ≡ first_of (entry_faults size at e)
  entry_settings some =
      asked ∙ sym (first_before (settings_faults e) (place_faults size at e) (λ z. some (asked ∙ z)))

  pub entry_behind : settings ≡ 0 → first_of (place_faults size at e) ≡ first_of (entry_faults size at e)
  entry_behind none = sym (first_behind (settings_faults e) (place_faults size at e) refl (sym asked ∙ none))

-- what is handed to the writer has no fault
pub record Writable (contents : Contents) (bodies room : ℕ) : Type 0 where
  pub few : contents.count ≤ 64
  pub settings : every settings_fit (counted contents) ≡ true
  pub whole : bodies ≡ 4 * steps_of (counted contents)
  pub small : size contents bodies ≤ most
  pub roomy : size contents bodies ≤ room

module _ (contents : Contents) (bodies room : ℕ) where
  pub not_refused_lem : Writable contents bodies room → write_refusal contents bodies room ≡ 0
  unfolding write_refusal
  not_refused_lem w =
      rw (le-ltb 64 contents.count w.few)
      (first_behind (entries_faults (counted contents)) (size_faults contents bodies room)
      (entries_numbered (counted contents)) (fit_all (counted contents) w.settings)
      ∙ simp (
        eq-eqb bodies (4 * steps_of (counted contents)) w.whole,
        le-ltb most (size contents bodies) w.small,
        le-ltb room (size contents bodies) w.roomy,
      ))

  pub writable : write_refusal contents bodies room ≡ 0 → Writable contents bodies room
  unfolding write_refusal
  writable e =
      let entries = entries_faults (counted contents) in
      let sizes = size_faults contents bodies room in
      let first = none_both ((23 when ltb 64 contents.count) ∷ []) (entries ++ sizes) refl e in
      let both = none_both entries sizes (entries_numbered (counted contents)) first.1 in
      let none = (none_exact sizes refl).0 both.1 in
      record {
        few =
            ltb-false 64 contents.count
            ((none_exact ((23 when ltb 64 contents.count) ∷ []) refl).0 first.0 0);
        settings = all_fit (counted contents) both.0;
        whole = equal bodies (4 * steps_of (counted contents)) (none 0);
        small = ltb-false most (size contents bodies) (none 1);
        roomy = ltb-false room (size contents bodies) (none 2);
      }

  pub count_first : 64 < contents.count → 23 ≡ write_refusal contents bodies room
  unfolding write_refusal
  count_first many = rw (lt-ltb 64 contents.count many)

  -- behind refusal 23: the refusal of the settings, and behind those the others, on the sum of the steps and the place
  -- of the first body as the code has them
  module _ (few : contents.count ≤ 64) where
    pub settings_first : (number : ℕ) → number ≡ first_of (entries_faults (counted contents)) → (number ≡ 0 → ⊥)
        → number ≡ write_refusal contents bodies room
    unfolding write_refusal
    settings_first number asked some =
        rw (le-ltb 64 contents.count few)
        (asked
        ∙ sym
        (first_before (entries_faults (counted contents)) (size_faults contents bodies room) (λ z. some (asked ∙ z))))

    pub checks_behind : 0 ≡ first_of (entries_faults (counted contents)) → (steps first : ℕ)
        → steps ≡ steps_of (counted contents)
        → first ≡ first_body contents.count
        → first_of
        ((30 when not (eqb bodies (4 * steps)))
        ∷ (20 when ltb most (first + bodies))
        ∷ (29 when ltb room (first + bodies))
        ∷ [])
        ≡ write_refusal contents bodies room
    unfolding write_refusal
    checks_behind none steps first summed placed =
        rw (summed, placed, le-ltb 64 contents.count few)
        (sym
        (first_behind (entries_faults (counted contents)) (size_faults contents bodies room)
        (entries_numbered (counted contents)) (sym none)))
