-- A scan that keeps the states which some causes can have reached is exact: it takes in all rows if some sequence of causes
-- explains them, and stops at the first row up to which there is none. Whatever the states, causes and rows are.
use mathlib.Core.Path.{◌≡◌, refl, sym, subst, ◌∙◌}
use mathlib.Core.Bool.{Bool, true, false, false≢true}
use mathlib.Core.List.{List, [], ◌∷◌}
use mathlib.Core.Logic.{◌↔◌}
use Prim.Native.Nat.{ℕ, zero, suc, ◌+◌}
use native.Mathlib.Omega.{arith}
use lib.ListN.{length, take}
use Rattle.explain.specs.Scan.{Scanned, all, first, scan_from}

module _ {S C R : Type 0} (Does : S → C → R → Type 0) (after : S → C → R → S) where
  -- a row for each cause, and from each state what it does
  abbrev pub Run : S → List C → List R → Type 0
  Run s [] [] = Unit {0}
  Run s (c ∷ cs) (r ∷ rows) = Does s c r × Run (after s c r) cs rows
  Run s [] (r ∷ rows) = ⊥
  Run s (c ∷ cs) [] = ⊥

  pub run_prefix : (i : ℕ) (s : S) (cs : List C) (rows : List R) → Run s cs rows → Run s (take i cs) (take i rows)
  run_prefix zero s cs rows run = tt
  run_prefix (suc i) s [] [] run = tt
  run_prefix (suc i) s [] (r ∷ rows) run = absurd run
  run_prefix (suc i) s (c ∷ cs) [] run = absurd run
  run_prefix (suc i) s (c ∷ cs) (r ∷ rows) run = (run.0, run_prefix i (after s c r) cs rows run.1)

  -- from one of the states that are left, some causes explain the rows
  module _ {D : Type 0} (In : D → S → Type 0) where
    abbrev pub From : D → List R → Type 0
    From d rows = (s : S) × (cs : List C) × In d s × Run s cs rows

    module _ (Able : S → Type 0) (keeps : (s : S) (c : C) (r : R) → Able s → Does s c r → Able (after s c r))
        (next : D → R → D) (live : D → Bool)
        (live_in : (d : D) → (live d ≡ true) ↔ ((s : S) × In d s))
        (next_in : (d : D) (r : R) (u : S) → live d ≡ true → ((s : S) → In d s → Able s)
        → In (next d r) u ↔ ((s : S) × (c : C) × In d s × Does s c r × (u ≡ after s c r))) where
      abbrev pub Good : D → Type 0
      Good d = (s : S) → In d s → Able s

      module _ (d : D) (r : R) (alive : live d ≡ true) (good : Good d) where
        pub good_next : Good (next d r)
        good_next u i =
            let from = (next_in d r u alive good).0 i in
            subst Able (sym from.4) (keeps from.0 from.1 r (good from.0 from.2) from.3)

        from_next : (rows : List R) → From d (r ∷ rows) ↔ From (next d r) rows
        from_next rows = (forward, backward)
          where
            forward : From d (r ∷ rows) → From (next d r) rows
            forward (s, [], i, run) = absurd run
            forward (s, c ∷ cs, i, run) =
                (after s c r, cs, (next_in d r (after s c r) alive good).1 (s, c, i, run.0, refl), run.1)

            backward : From (next d r) rows → From d (r ∷ rows)
            backward (u, cs, i, run) =
                let from = (next_in d r u alive good).0 i in
                (from.0, from.1 ∷ cs, from.2, (from.3, subst (λ (t : S). Run t cs rows) from.4 run))

      -- what the scan says, from row i on
      abbrev pub Says : ℕ → D → List R → Scanned → Type 0
      Says i d rows (all k) = (k ≡ i + length rows) × From d rows
      Says i d rows (first k) = (j : ℕ) × (k ≡ i + j) × From d (take j rows) × (From d (take (suc j) rows) → ⊥)

      none_left : (d : D) → live d ≡ true → From d []
      none_left d alive = let some = (live_in d).0 alive in (some.0, [], some.1, tt)

      pub scan_exact : (rows : List R) (i : ℕ) (d : D) → live d ≡ true → Good d
          → Says i d rows (scan_from next live i d rows)
      scan_exact [] i d alive good = (omega arith, none_left d alive)
      scan_exact (r ∷ rows) i d alive good =
          go (live (next d r)) refl (λ e. scan_exact rows (suc i) (next d r) e (good_next d r alive good))
        where
          later : (f : Scanned) → Says (suc i) (next d r) rows f → Says i d (r ∷ rows) f
          later (all k) said = let e = said.0 in (omega arith, (from_next d r alive good rows).1 said.1)
          later (first k) (j, e, some, none) = (
            suc j,
            omega arith,
            (from_next d r alive good (take j rows)).1 some,
            λ f. none ((from_next d r alive good (take (suc j) rows)).0 f),
          )

          stop : live (next d r) ≡ false → From d (r ∷ []) → ⊥
          stop e f =
              let (u, cs, i, run) = (from_next d r alive good []).0 f in
              false≢true (sym e ∙ (live_in (next d r)).1 (u, i))

          go : (t : Bool) → live (next d r) ≡ t
              → (live (next d r) ≡ true → Says (suc i) (next d r) rows (scan_from next live (suc i) (next d r) rows))
              → Says i d (r ∷ rows) (scan_from next live i d (r ∷ rows))
          go true e rest = rw e (later (scan_from next live (suc i) (next d r) rows) (rest e))
          go false e rest = rw e (0, omega arith, none_left d alive, stop e)
