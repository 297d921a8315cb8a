-- Pieces of bytes that are alike, how many are, one behind the other, and that blocks of a row are rows.
use mathlib.Core.Path.{◌≡◌, refl, sym, ap, subst, ◌∙◌}
use mathlib.Core.Bool.{Bool, true, false}
use mathlib.Core.List.{List, [], ◌∷◌, ◌++◌}
use Prim.Native.Nat.{ℕ, zero, suc, ◌+◌, ◌-◌, ◌*◌, ◌/◌, ◌%◌, ◌≤◌, ◌<◌}
use native.Mathlib.Omega.{arith}
use lib.ListN.{length, take, drop, length-append, length-drop}
use Rattle.std.proofs.lemmas.List.{take-append-drop, drop-drop}
use Rattle.std.proofs.lemmas.Slice.{between_to_end}
use Rattle.std.specs.Prelude.{if◌then◌else◌}
use Rattle.std.specs.Str.{bytes_eq}
use Rattle.std.specs.Cmp.Lexicographic.{same_text}
use Rattle.std.specs.Simd.{first_chunks}
use Rattle.repeats.specs.Repeats.{leading, rows_in}

-- no more than there are
pub leading_few : (piece : List ℕ) (pieces : List (List ℕ)) → leading piece pieces ≤ length pieces
leading_few piece [] = omega arith
leading_few piece (next ∷ rest) = go (bytes_eq piece next) (leading_few piece rest)
  where
    go : (t : Bool) → leading piece rest ≤ length rest → (if t then suc (leading piece rest) else 0) ≤ suc (length rest)
    go true few = omega arith
    go false few = omega arith

-- pieces and others behind them
module _ (piece : List ℕ) where
  pub leading_short : (xs ys : List (List ℕ)) → leading piece xs < length xs → leading piece (xs ++ ys) ≡ leading piece xs
  leading_short [] ys few = absurd (omega arith)
  leading_short (x ∷ xs) ys few = go (bytes_eq piece x) few (leading_short xs ys)
    where
      go : (t : Bool) → (if t then suc (leading piece xs) else 0) < suc (length xs)
          → (leading piece xs < length xs → leading piece (xs ++ ys) ≡ leading piece xs)
          → (if t then suc (leading piece (xs ++ ys)) else 0) ≡ (if t then suc (leading piece xs) else 0)
      go true few later = ap (λ (n : ℕ). suc n) (later (omega arith))
      go false few later = refl

  pub leading_whole : (xs ys : List (List ℕ)) → length xs ≤ leading piece xs
      → leading piece (xs ++ ys) ≡ length xs + leading piece ys
  leading_whole [] ys all = omega arith
  leading_whole (x ∷ xs) ys all = go (bytes_eq piece x) all (leading_whole xs ys)
    where
      go : (t : Bool) → suc (length xs) ≤ (if t then suc (leading piece xs) else 0)
          → (length xs ≤ leading piece xs → leading piece (xs ++ ys) ≡ length xs + leading piece ys)
          → (if t then suc (leading piece (xs ++ ys)) else 0) ≡ suc (length xs) + leading piece ys
      go true all later = let e = later (omega arith) in omega arith
      go false all later = absurd (omega arith)

-- the rows of bytes, one by one
pub rows_four : (a b c d : ℕ) (rest : List ℕ) → rows_in (a ∷ b ∷ c ∷ d ∷ rest) ≡ (a ∷ b ∷ c ∷ d ∷ []) ∷ rows_in rest
rows_four a b c d rest =
    let more : length (a ∷ b ∷ c ∷ d ∷ rest) / 4 ≡ suc (length rest / 4) = omega arith in
    rw more refl

pub rows_many : (bytes : List ℕ) → length (rows_in bytes) ≡ length bytes / 4
rows_many bytes = chunks_many (length bytes / 4) bytes
  where
    chunks_many : (k : ℕ) (xs : List ℕ) → length (first_chunks 4 k xs) ≡ k
    chunks_many zero xs = refl
    chunks_many (suc k) xs = ap (λ (n : ℕ). suc n) (chunks_many k (drop 4 xs))

rows_appended : (xs ys : List ℕ) → length xs % 4 ≡ 0 → rows_in (xs ++ ys) ≡ rows_in xs ++ rows_in ys
rows_appended (a ∷ b ∷ c ∷ d ∷ xs) ys whole =
    rows_four a b c d (xs ++ ys)
    ∙ ap (λ (l : List (List ℕ)). (a ∷ b ∷ c ∷ d ∷ []) ∷ l) (rows_appended xs ys (omega arith))
    ∙ ap (λ (l : List (List ℕ)). l ++ rows_in ys) (sym (rows_four a b c d xs))
rows_appended (a ∷ b ∷ c ∷ []) ys whole = absurd (omega arith)
rows_appended (a ∷ b ∷ []) ys whole = absurd (omega arith)
rows_appended (a ∷ []) ys whole = absurd (omega arith)
rows_appended [] ys whole = refl

-- rows behind a block of them
module _ (row block : List ℕ) (size : length block ≡ 64) where
  many : length (rows_in block) ≡ 16
  many = rows_many block ∙ ap (λ (n : ℕ). n / 4) size

  joined : (behind : List ℕ) → rows_in (block ++ behind) ≡ rows_in block ++ rows_in behind
  joined behind = rows_appended block behind (ap (λ (n : ℕ). n % 4) size)

  pub block_short : (behind : List ℕ) → leading row (rows_in block) < 16
      → leading row (rows_in block) ≡ leading row (rows_in (block ++ behind))
  block_short behind few =
      let long = many in
      sym (ap (leading row) (joined behind) ∙ leading_short row (rows_in block) (rows_in behind) (omega arith))

  module _ (all : 16 ≤ leading row (rows_in block)) where
    pub block_whole : (behind : List ℕ) → leading row (rows_in (block ++ behind)) ≡ 16 + leading row (rows_in behind)
    block_whole behind =
        let long = many in
        ap (leading row) (joined behind)
        ∙ leading_whole row (rows_in block) (rows_in behind) (omega arith)
        ∙ ap (λ (n : ℕ). n + leading row (rows_in behind)) many

    -- and so do as many blocks as are that one
    pub record Blocks (behind : List ℕ) (blocks : ℕ) : Type 0 where
      pub within : blocks * 64 ≤ length behind
      pub rows : leading row (rows_in behind) ≡ blocks * 16 + leading row (rows_in (drop (blocks * 64) behind))

    none_alike : (behind : List ℕ) → Blocks behind 0
    none_alike behind = record { within = omega arith; rows = omega arith }

    pub blocks_rows : (k : ℕ) (behind : List ℕ) → k * 64 ≤ length behind → Blocks behind (leading block (first_chunks 64 k behind))
    blocks_rows zero behind room = none_alike behind
    blocks_rows (suc k) behind room =
        go (bytes_eq block (take 64 behind)) refl
        (blocks_rows k (drop 64 behind) (let long : length (drop 64 behind) ≡ length behind - 64 = length-drop 64 behind in omega arith))
      where
        go : (t : Bool) → bytes_eq block (take 64 behind) ≡ t
            → Blocks (drop 64 behind) (leading block (first_chunks 64 k (drop 64 behind)))
            → Blocks behind (if t then suc (leading block (first_chunks 64 k (drop 64 behind))) else 0)
        go true same later =
            let n = leading block (first_chunks 64 k (drop 64 behind)) in
            let long : length (drop 64 behind) ≡ length behind - 64 = length-drop 64 behind in
            let within = later.within in
            let one : block ++ drop 64 behind ≡ behind =
            ap (λ (l : List ℕ). l ++ drop 64 behind) (same_text block (take 64 behind) (sym same)) ∙ take-append-drop 64 behind in
            let on : 64 + n * 64 ≡ suc n * 64 = omega arith in
            let rest : drop (n * 64) (drop 64 behind) ≡ drop (suc n * 64) behind = drop-drop (n * 64) 64 behind ∙ ap (λ (m : ℕ). drop m behind) on in
            record {
              within = omega arith;
              rows =
                  ap (λ (l : List ℕ). leading row (rows_in l)) (sym one)
                  ∙ block_whole (drop 64 behind)
                  ∙ ap (λ (m : ℕ). 16 + m)
                  (later.rows ∙ ap (λ (l : List ℕ). n * 16 + leading row (rows_in l)) rest)
                  ∙ omega arith;
            }
        go false other later = none_alike behind

-- the first block of bytes, and what stands behind it
pub record Parts (bytes block behind : List ℕ) : Type 0 where
  pub size : length block ≡ 64
  pub joined : block ++ behind ≡ bytes

pub parts : {bytes block behind : List ℕ} → block ≡ take 64 bytes → behind ≡ drop 64 bytes
    → length behind + 64 ≡ length bytes → Parts bytes block behind
parts {bytes} {block} {behind} front back long =
    let joined : block ++ behind ≡ bytes =
    ap (λ (l : List ℕ). l ++ behind) front ∙ ap (λ (l : List ℕ). take 64 bytes ++ l) back ∙ take-append-drop 64 bytes in
    record { size = omega (arith, ap length joined, length-append block behind); joined = joined }

module _ (row : List ℕ) {bytes block behind : List ℕ} (p : Parts bytes block behind) where
  pub run_short : {rows : ℕ} → rows ≡ leading row (rows_in block) → rows < 16 → rows ≡ leading row (rows_in bytes)
  run_short is few =
      is
      ∙ block_short row block p.size behind (omega arith)
      ∙ ap (λ (l : List ℕ). leading row (rows_in l)) p.joined

  module _ {rows blocks : ℕ} (is : rows ≡ leading row (rows_in block)) (all : 16 ≤ rows)
      (b : blocks ≡ leading block (first_chunks 64 (length behind / 64) behind)) where
    whole : 16 ≤ leading row (rows_in block)
    whole = omega arith

    sixteen : rows ≡ 16
    sixteen =
        let size = p.size in
        omega (arith, leading_few row (rows_in block), rows_many block)

    found : Blocks row block p.size whole behind blocks
    found =
        subst (Blocks row block p.size whole behind) (sym b)
        (blocks_rows row block p.size whole (length behind / 64) behind (omega arith))

    module _ {last : ℕ} (l : last ≡ leading row (rows_in (take (length behind - blocks * 64) (drop (blocks * 64) behind)))) where
      rest : last ≡ leading row (rows_in (drop (blocks * 64) behind))
      rest = l ∙ ap (λ (l : List ℕ). leading row (rows_in l)) (between_to_end behind (blocks * 64) (length behind) (omega arith))

      pub run_whole : rows + blocks * 16 + last ≡ leading row (rows_in bytes)
      run_whole =
          let after = found.rows in
          let once = sixteen in
          let more = rest in
          omega (arith, block_whole row block p.size whole behind, ap (λ (l : List ℕ). leading row (rows_in l)) p.joined)
