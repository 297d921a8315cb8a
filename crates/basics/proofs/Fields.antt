-- Laws of layouts: what is written by a layout is read back by it, and what is read by it, written, gives the same bytes.
use mathlib.Core.Path.{◌≡◌, refl, sym, ap, ◌∙◌}
use mathlib.Core.Bool.{true}
use mathlib.Core.List.{List, [], ◌∷◌, ◌++◌, append_assoc}
use Prim.Native.Nat.{ℕ, suc, ◌+◌, ◌*◌, ◌≤◌, ◌<◌, ◌/◌, ◌%◌, ◌^◌}
use native.Mathlib.Nat.{add-zero, add_assoc, suc_inj}
use native.Mathlib.Numerals.{add-one}
use native.Mathlib.Omega.{arith}
use lib.ListN.{length, get_or, take, drop, length-append}
use lib.Seq.{get_or-append-add, drop-cons, drop-drop, take-add}
use borrow.Author.Tests.{lt-ltb}
use Rattle.basics.specs.Bytes.{two_at, four_at, two_bytes, four_bytes}
use Rattle.basics.specs.Fields.{Width, one, two, four, bytes_in, number_at, bytes_of, size_of, fields_fit, fields_at}
use Rattle.basics.specs.Fields.{field_bytes}

two_shift : (before bytes : List ℕ) (n : ℕ) → two_at (before ++ bytes) (length before + n) ≡ two_at bytes n
unfolding two_at
two_shift before bytes n =
    rw (add_assoc (length before) n 1, get_or-append-add before bytes n 0, get_or-append-add before bytes (n + 1) 0)

number_shift : (width : Width) (before bytes : List ℕ) (n : ℕ)
    → number_at width (before ++ bytes) (length before + n) ≡ number_at width bytes n
unfolding four_at
number_shift one before bytes n = get_or-append-add before bytes n 0
number_shift two before bytes n = two_shift before bytes n
number_shift four before bytes n =
    rw (add_assoc (length before) n 2, two_shift before bytes n, two_shift before bytes (n + 2))

length_bytes : (width : Width) (v : ℕ) → length (bytes_of width v) ≡ bytes_in width
length_bytes one v = refl
length_bytes two v = refl
length_bytes four v = refl

first_back : (width : Width) (v : ℕ) (after : List ℕ) → number_at width (bytes_of width v ++ after) 0 ≡ v
unfolding two_at four_at
first_back one v after = refl
first_back two v after = omega arith
first_back four v after = omega arith

number_back : (width : Width) (before : List ℕ) (v : ℕ) (after : List ℕ)
    → number_at width (before ++ (bytes_of width v ++ after)) (length before) ≡ v
number_back width before v after =
    ap (λ (at : ℕ). number_at width (before ++ (bytes_of width v ++ after)) at) (sym (add-zero (length before)))
    ∙ number_shift width before (bytes_of width v ++ after) 0
    ∙ first_back width v after

-- numbers that were written by a layout, wherever, are read back
pub fields_back : (layout : List Width) (values before after : List ℕ) → length values ≡ length layout
    → fields_at layout (before ++ (field_bytes layout values ++ after)) (length before) ≡ values
fields_back [] [] before after e = refl
fields_back [] (v ∷ values) before after e = absurd (omega arith)
fields_back (width ∷ layout) [] before after e = absurd (omega arith)
fields_back (width ∷ layout) (v ∷ values) before after e =
    let rest = field_bytes layout values in
    let whole = before ++ (bytes_of width v ++ rest ++ after) in
    let here : number_at width whole (length before) ≡ v =
    rw (append_assoc (bytes_of width v) rest after) (number_back width before v (rest ++ after)) in
    let next : length before + bytes_in width ≡ length (before ++ bytes_of width v) =
    sym (length-append before (bytes_of width v) ∙ ap (λ (k : ℕ). length before + k) (length_bytes width v)) in
    let there : fields_at layout whole (length before + bytes_in width) ≡ values =
    rw (next, append_assoc (bytes_of width v) rest after, ← append_assoc before (bytes_of width v) (rest ++ after))
    (fields_back layout values (before ++ bytes_of width v) after (suc_inj e)) in
    rw (here, there)

two_of : (high low : ℕ) → low < 256 → two_bytes (high * 256 + low) ≡ high ∷ low ∷ []
two_of high low h =
    let p : (high * 256 + low) / 256 ≡ high = omega arith in
    let q : (high * 256 + low) % 256 ≡ low = omega arith in
    rw (p, q)

four_of : (high low : ℕ) → low < 65536 → four_bytes (high * 65536 + low) ≡ two_bytes high ++ two_bytes low
four_of high low h =
    let p : (high * 65536 + low) / 65536 ≡ high = omega arith in
    let q : (high * 65536 + low) % 65536 ≡ low = omega arith in
    rw (p, q)

-- bytes that were read by a layout, all of them below 256, are written again as they were
module _ (bytes : List ℕ) (small : (i : ℕ) → get_or bytes i 0 < 256) where
  two_again : (at : ℕ) → at + 2 ≤ length bytes → bytes_of two (number_at two bytes at) ≡ take 2 (drop at bytes)
  unfolding two_at
  two_again at h =
      rw (drop-cons bytes at 0 (omega arith), drop-cons bytes (suc at) 0 (omega arith), ← add-one at)
      (two_of (get_or bytes at 0) (get_or bytes (at + 1) 0) (small (at + 1)))

  two_small : (at : ℕ) → two_at bytes at < 65536
  unfolding two_at
  two_small at = omega (arith, small at, small (at + 1))

  number_small : (width : Width) (at : ℕ) → number_at width bytes at < 256 ^ bytes_in width
  unfolding four_at
  number_small one at = small at
  number_small two at = two_small at
  number_small four at = omega (arith, two_small at, two_small (at + 2))

  -- numbers that were read fit into their fields
  pub fields_fit_lem : (layout : List Width) (at : ℕ) → fields_fit layout (fields_at layout bytes at) ≡ true
  fields_fit_lem [] at = refl
  fields_fit_lem (width ∷ layout) at =
      rw (lt-ltb (number_at width bytes at) (256 ^ bytes_in width) (number_small width at)) (fields_fit_lem layout (at + bytes_in width))

  number_again : (width : Width) (at : ℕ) → at + bytes_in width ≤ length bytes
      → bytes_of width (number_at width bytes at) ≡ take (bytes_in width) (drop at bytes)
  unfolding four_at
  number_again one at h = rw (drop-cons bytes at 0 (omega arith))
  number_again two at h = two_again at h
  number_again four at h =
      four_of (two_at bytes at) (two_at bytes (at + 2)) (two_small (at + 2))
      ∙ ap (λ (l : List ℕ). l ++ two_bytes (two_at bytes (at + 2))) (two_again at (omega arith))
      ∙ ap (λ (l : List ℕ). take 2 (drop at bytes) ++ l)
      (two_again (at + 2) (omega arith) ∙ ap (take 2) (sym (drop-drop 2 at bytes)))
      ∙ sym (take-add 2 2 (drop at bytes))

  pub fields_again : (layout : List Width) (at : ℕ) → at + size_of layout ≤ length bytes
      → field_bytes layout (fields_at layout bytes at) ≡ take (size_of layout) (drop at bytes)
  fields_again [] at h = refl
  fields_again (width ∷ layout) at h =
      rw (
        number_again width at (omega arith),
        fields_again layout (at + bytes_in width) (omega arith),
        ← drop-drop (bytes_in width) at bytes,
      )
      (sym (take-add (bytes_in width) (size_of layout) (drop at bytes)))
