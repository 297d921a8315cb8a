-- Laws of settings and of a capture's size: they fit exactly where neither of the two checks applies.
use mathlib.Core.Path.{◌≡◌, refl}
use mathlib.Core.Bool.{true, and-eq-true_iff}
use Prim.Native.Nat.{ℕ, ◌%◌, ◌≤◌}
use lib.Dec.{leb, eqb}
use borrow.Author.Tests.{leb-true, ltb-false, le-ltb, eqb-true, eq-eqb, not-false}
use Rattle.basics.specs.Capture.{most, size_faults}
use Rattle.basics.specs.First.{first_of}
use Rattle.basics.specs.Settings.{sections_fit, mask_fits, settings_checks}
use Rattle.basics.proofs.First.{numbered, none_exact}

pub fit_bounds : (n : ℕ) → sections_fit n ≡ true → (1 ≤ n) × (n ≤ 14)
fit_bounds n fits =
    let both = (and-eq-true_iff (leb 1 n) (leb n 14)).0 fits in (leb-true 1 n both.0, leb-true n 14 both.1)

module _ (first second n mask : ℕ) where
  pub settings_fit_lem : numbered (settings_checks first second n mask) ≡ true
      → first_of (settings_checks first second n mask) ≡ 0 → (sections_fit n ≡ true) × (mask_fits n mask ≡ true)
  settings_fit_lem named e =
      let none = (none_exact (settings_checks first second n mask) named).0 e in
      (not-false (sections_fit n) (none 0), not-false (mask_fits n mask) (none 1))

  pub fit_settings : sections_fit n ≡ true → mask_fits n mask ≡ true → first_of (settings_checks first second n mask) ≡ 0
  fit_settings fits mask_Fits = rw (fits, mask_Fits)

-- what refusals 8 and 9 leave of a capture's size, and that nothing else does
pub size_fits : (size : ℕ) → first_of (size_faults size) ≡ 0 → (size % 4 ≡ 0) × (size ≤ most)
size_fits size e =
    let none = (none_exact (size_faults size) refl).0 e in
    (eqb-true (size % 4) 0 (not-false (eqb (size % 4) 0) (none 0)), ltb-false most size (none 1))

pub fit_size : (size : ℕ) → size % 4 ≡ 0 → size ≤ most → first_of (size_faults size) ≡ 0
fit_size size whole small = rw (eq-eqb (size % 4) 0 whole, le-ltb most size small)
