-- Laws of big-endian numbers: past the end nothing is read and nothing is written; two runs of writes,
-- one behind the other, are one; what was written is read back.
use mathlib.Core.Path.{◌≡◌, refl, sym, ap, ◌∙◌}
use mathlib.Core.List.{List, [], ◌∷◌, ◌++◌, append_assoc, append-nil}
use mathlib.Core.Logic.{◌⊎◌, inl, inr}
use Prim.Native.Nat.{ℕ, zero, suc, ◌+◌, ◌-◌, ◌*◌, ◌^◌, ◌≤◌, ◌<◌, ◌/◌, ◌%◌}
use native.Mathlib.Nat.{add-zero, zero-add, add-suc, suc-add}
use native.Mathlib.Numerals.{add-one}
use native.Mathlib.Omega.{arith}
use Rattle.std.specs.Int.{w16, w32, to_be_bytes, from_be_bytes}
use Rattle.std.specs.Ordering.{ord_min, nat_cmp}
use Rattle.std.proofs.lemmas.List.{drop-replicate, take_rest}
use lib.Seq.{drop-cons}
use lib.ListN.{replicate, length, get_or, set, take, drop, length-set, length-drop, drop_of_length-le, get_or-eq_default}
use lib.Seq.{set_out, set_comm, sets, sets-eq, length-sets, get_or-set_same, get_or-set_other, drop-drop, take-length}
use Rattle.std.proofs.lemmas.List.{length-take, take-append-drop}
use Rattle.basics.specs.Bytes.{two_at, four_at, two_bytes, four_bytes, bytes_at}

pub two_past : (bytes : List ℕ) (at : ℕ) → length bytes ≤ at → two_at bytes at ≡ 0
unfolding two_at
two_past bytes at h =
    let h' : length bytes ≤ at + 1 = omega arith in
    rw (get_or-eq_default bytes 0 h, get_or-eq_default bytes 0 h')

pub four_past : (bytes : List ℕ) (at : ℕ) → length bytes ≤ at → four_at bytes at ≡ 0
unfolding four_at
four_past bytes at h =
    let h' : length bytes ≤ at + 2 = omega arith in
    rw (two_past bytes at h, two_past bytes (at + 2) h')

pub sets_past : (values bytes : List ℕ) (at : ℕ) → length bytes ≤ at → sets bytes at values ≡ bytes
sets_past [] bytes at h = refl
sets_past (v ∷ values) bytes at h =
    let h' : length bytes ≤ suc at = omega arith in
    rw (set_out bytes at v h) (sets_past values bytes (suc at) h')

sets_append : (us vs bytes : List ℕ) (at : ℕ) → sets (sets bytes at us) (at + length us) vs ≡ sets bytes at (us ++ vs)
sets_append [] vs bytes at = ap (λ (k : ℕ). sets bytes k vs) (add-zero at)
sets_append (u ∷ us) vs bytes at =
    ap (λ (k : ℕ). sets (sets (set bytes at u) (suc at) us) k vs) (add-suc at (length us) ∙ sym (suc-add at (length us)))
    ∙ sets_append us vs (set bytes at u) (suc at)

-- what two writes leave, the second behind the first
pub sets_joined : (us vs bytes between after : List ℕ) (at : ℕ)
    → between ≡ sets bytes at us → after ≡ sets between (at + length us) vs → after ≡ sets bytes at (us ++ vs)
sets_joined us vs bytes between after at first second =
    second ∙ ap (λ (l : List ℕ). sets l (at + length us) vs) first ∙ sets_append us vs bytes at

-- two writes that do not meet leave the same in either order
set_apart : (vs bytes : List ℕ) (i j v : ℕ) → i < j → sets (set bytes i v) j vs ≡ set (sets bytes j vs) i v
set_apart [] bytes i j v h = refl
set_apart (w ∷ vs) bytes i j v h =
    ap (λ (l : List ℕ). sets l (suc j) vs) (set_comm bytes i j v w (λ e. omega arith))
    ∙ set_apart vs (set bytes j w) i (suc j) v (omega arith)

pub sets_apart : (us vs bytes : List ℕ) (i j : ℕ) → i + length us ≤ j
    → sets (sets bytes j vs) i us ≡ sets (sets bytes i us) j vs
sets_apart [] vs bytes i j h = refl
sets_apart (u ∷ us) vs bytes i j h =
    ap (λ (l : List ℕ). sets l (suc i) us) (sym (set_apart vs bytes i j u (omega arith)))
    ∙ sets_apart us vs (set bytes i u) (suc i) j (omega arith)

-- what is written at the start of a part, the part starting at a place, is written at that place
pub sets_part : (values bytes : List ℕ) (at : ℕ) → at + length values ≤ length bytes
    → take at bytes ++ sets (drop at bytes) 0 values ≡ sets bytes at values
sets_part values bytes at h =
    let fits : 0 + length values ≤ length (drop at bytes) = simp length-drop (omega arith) in
    rw (
      sets-eq values (drop at bytes) 0 fits,
      sets-eq values bytes at h,
      drop-drop (0 + length values) at bytes,
      zero-add,
    )
    (sym (append_assoc (take at bytes) values (drop (at + length values) bytes)))

-- the output once its part from a place on, lent to be written, is back
abbrev pub back : List ℕ → ℕ → List ℕ → List ℕ
back out at part = take at out ++ (part ++ drop (length out - at) (drop at out))

pub lent : (out part values : List ℕ) (at : ℕ) → at + length values ≤ length out
    → part ≡ sets (take (length out - at) (drop at out)) 0 values → back out at part ≡ sets out at values
lent out part values at h e =
    let rest = drop at out in
    let none : drop (length out - at) rest ≡ [] =
    drop_of_length-le rest {i = length out - at} (simp length-drop (omega arith)) in
    rw (none, append-nil, e, take_rest out at) (sets_part values out at h)

-- what copying bytes to the start of a part leaves there
pub copied : (source part : List ℕ) → length source ≤ length part
    → take (length source) source ++ drop (length source) part ≡ sets part 0 source
copied source part h = rw (sets-eq source part 0 (omega arith), take-length source, zero-add)

pub over_all : (source part : List ℕ) → length source ≡ length part
    → take (length source) source ++ drop (length source) part ≡ source
over_all source part e =
    rw (take-length source, drop_of_length-le part {i = length source} (omega arith), append-nil)

-- what is written from a place on leaves the bytes before it
before_sets : (values bytes : List ℕ) (at k : ℕ) → k < at → get_or (sets bytes at values) k 0 ≡ get_or bytes k 0
before_sets [] bytes at k h = refl
before_sets (v ∷ values) bytes at k h =
    before_sets values (set bytes at v) (suc at) k (omega arith) ∙ get_or-set_other bytes at k v 0 (omega arith)

two_before : (values bytes : List ℕ) (at k : ℕ) → k + 1 < at → two_at (sets bytes at values) k ≡ two_at bytes k
unfolding two_at
two_before values bytes at k h =
    rw (before_sets values bytes at k (omega arith), before_sets values bytes at (k + 1) (omega arith))

pub two_back : (bytes : List ℕ) (at v : ℕ) → at + 1 < length bytes → two_at (sets bytes at (two_bytes v)) at ≡ v
unfolding two_at
two_back bytes at v h =
    let high : get_or (sets bytes at (two_bytes v)) at 0 ≡ v / 256 =
    get_or-set_other (set bytes at (v / 256)) (suc at) at (v % 256) 0 (omega arith)
    ∙ get_or-set_same bytes at (v / 256) 0 (omega arith) in
    let low : get_or (sets bytes at (two_bytes v)) (at + 1) 0 ≡ v % 256 =
    rw (add-one at) (get_or-set_same (set bytes at (v / 256)) (suc at) (v % 256) 0 (simp length-set (omega arith))) in
    omega arith

pub four_back : (bytes : List ℕ) (at v : ℕ) → at + 3 < length bytes → four_at (sets bytes at (four_bytes v)) at ≡ v
unfolding four_at
four_back bytes at v h =
    let halves = sets_append (two_bytes (v / 65536)) (two_bytes (v % 65536)) bytes at in
    let first = sets bytes at (two_bytes (v / 65536)) in
    let high : two_at (sets first (at + 2) (two_bytes (v % 65536))) at ≡ v / 65536 =
    two_before (two_bytes (v % 65536)) first (at + 2) at (omega arith) ∙ two_back bytes at (v / 65536) (omega arith) in
    let low : two_at (sets first (at + 2) (two_bytes (v % 65536))) (at + 2) ≡ v % 65536 =
    two_back first (at + 2) (v % 65536) (omega (arith, length-sets bytes at (two_bytes (v / 65536)))) in
    rw (← halves) (omega arith)

-- the library's numbers of two and of four bytes, the high one first, and their bytes
pub be_two : (a b : ℕ) → from_be_bytes w16 (a ∷ b ∷ []) ≡ a * 256 + b
be_two a b = omega arith

pub be_four : (a b c d : ℕ) → from_be_bytes w32 (a ∷ b ∷ c ∷ d ∷ []) ≡ (a * 256 + b) * 65536 + (c * 256 + d)
be_four a b c d = omega arith

pub two_be : (v : ℕ) → v < 2 ^ 16 → to_be_bytes w16 v ≡ two_bytes v
two_be v h =
    let high : v / 256 % 256 ≡ v / 256 = omega arith in
    rw high

pub four_be : (v : ℕ) → v < 2 ^ 32 → to_be_bytes w32 v ≡ four_bytes v
four_be v h =
    let first : v / 16777216 % 256 ≡ v / 65536 / 256 = omega arith in
    let second : v / 65536 % 256 ≡ v / 65536 % 256 = refl in
    let third : v / 256 % 256 ≡ v % 65536 / 256 = omega arith in
    let fourth : v % 256 ≡ v % 65536 % 256 = omega arith in
    rw (first, third, fourth)

-- as many bytes from a place on: those that are there, and zeros past the end
bytes_there : (size : ℕ) (s : List ℕ) (at : ℕ) → at + size ≤ length s → bytes_at size s at ≡ take size (drop at s)
bytes_there zero s at h = refl
bytes_there (suc size) s at h =
    let in_s : at < length s = omega arith in
    rw (drop-cons s at 0, add-one) (ap (λ (l : List ℕ). get_or s at 0 ∷ l) (bytes_there size s (suc at) (omega arith)))

bytes_past : (size : ℕ) (s : List ℕ) (at : ℕ) → length s ≤ at → bytes_at size s at ≡ replicate size 0
bytes_past zero s at h = refl
bytes_past (suc size) s at h =
    rw (get_or-eq_default s 0 h, add-one) (ap (λ (l : List ℕ). 0 ∷ l) (bytes_past size s (suc at) (omega arith)))

bytes_split : (a b : ℕ) (s : List ℕ) (at : ℕ) → bytes_at (a + b) s at ≡ bytes_at a s at ++ bytes_at b s (at + a)
bytes_split zero b s at = rw (zero-add, add-zero)
bytes_split (suc a) b s at =
    rw (suc-add, add-suc at a, add-one at) (ap (λ (l : List ℕ). get_or s at 0 ∷ l) (bytes_split a b s (suc at) ∙ rw suc-add))

-- what taking up as many as are there, over zeros, gives
pub bytes_taken : (size few : ℕ) (s : List ℕ) (at : ℕ) → few ≤ size → at + few ≤ length s
    → (few ≡ size) ⊎ (at + few ≡ length s)
    → take few (drop at s) ++ drop few (replicate size 0) ≡ bytes_at size s at
bytes_taken size few s at le fits all =
    let sum : few + (size - few) ≡ size = omega arith in
    let rest : bytes_at (size - few) s (at + few) ≡ replicate (size - few) 0 =
    elim all [
      | inl e ↦ (let none : size - few ≡ 0 = omega arith in rw none)
      | inr e ↦ bytes_past (size - few) s (at + few) (omega arith)
    ] in
    rw (drop-replicate {X = ℕ} few size 0, ← rest, ← bytes_there few s at fits, ← bytes_split few (size - few) s at, sum)

pub none_taken : (size : ℕ) (s : List ℕ) (at : ℕ) → length s ≤ at → replicate size 0 ≡ bytes_at size s at
none_taken size s at h = sym (bytes_past size s at h)

-- what is left once as many as have room are put over a part
pub some_put : (bytes s : List ℕ) (at few : ℕ) → few ≤ length bytes → at + few ≤ length s
    → (few ≡ length bytes) ⊎ (at + few ≡ length s)
    → take at s ++ (take few bytes ++ drop (at + few) s) ≡ sets s at bytes
some_put bytes s at few le fits all =
    let size : length (take few bytes) ≡ few = simp length-take (omega arith) in
    let first : sets s at (take few bytes) ≡ take at s ++ (take few bytes ++ drop (at + few) s) =
    sets-eq (take few bytes) s at (omega arith) ∙ rw (size, append_assoc) in
    let rest : sets (sets s at (take few bytes)) (at + few) (drop few bytes) ≡ sets s at (take few bytes) =
    elim all [
      | inl e ↦ (let none : drop few bytes ≡ [] = drop_of_length-le bytes (omega arith) in rw none)
      | inr e ↦ sets_past (drop few bytes) (sets s at (take few bytes)) (at + few) (omega (arith, length-sets s at (take few bytes)))
    ] in
    let both : sets (sets s at (take few bytes)) (at + few) (drop few bytes) ≡ sets s at bytes =
    ap (λ (k : ℕ). sets (sets s at (take few bytes)) (at + k) (drop few bytes)) (sym size)
    ∙ sets_append (take few bytes) (drop few bytes) s at ∙ rw (take-append-drop few bytes) in
    sym first ∙ sym rest ∙ both

-- the lesser of a number and of what is left of a size from a place on
pub lesser : (a size at m : ℕ) → at ≤ size → m ≡ ord_min nat_cmp a (size - at)
    → (m ≤ a) × (at + m ≤ size) × ((m ≡ a) ⊎ (at + m ≡ size))
lesser a size at m le e =
    elim (least a (size - at) m e) as (λ _. (m ≤ a) × (at + m ≤ size) × ((m ≡ a) ⊎ (at + m ≡ size))) [
      | inl h ↦ (omega arith, omega arith, inl h.0)
      | inr h ↦ (omega arith, omega arith, inr (omega arith))
    ]
  where
    least : (a b m : ℕ) → m ≡ ord_min nat_cmp a b → ((m ≡ a) × (a ≤ b)) ⊎ ((m ≡ b) × (b ≤ a))
    least a b m e = grind arith
