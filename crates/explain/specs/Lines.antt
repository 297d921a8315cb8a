-- The judge lines of document 01: n = 2, mask 0, W = 3, with hold or without.
use Rattle.std.specs.Prelude.{Bool, List, [], ◌∷◌, ℕ}
use Rattle.explain.specs.Verdict.{Judging, explained_at, unexplained_at, Right}

infix 15 ◌is◌
pub data Line : Type 0 where
  ◌is◌ : List ℕ → Judging → Line

abbrev pub lines : List Line
lines =
    ([] is explained_at 0)
    ∷ (0x00 ∷ 0x08 ∷ 0xE1 ∷ 0x08 ∷ 0x21 ∷ 0x18 ∷ 0x82 ∷ 0x08 ∷ [] is unexplained_at 1)
    ∷ (0x81 ∷ 0x08 ∷ 0xF0 ∷ 0x08 ∷ 0x11 ∷ 0x08 ∷ 0x00 ∷ 0x08 ∷ [] is explained_at 2)
    ∷ (0x81 ∷ 0x08 ∷ 0xF0 ∷ 0x08 ∷ 0x11 ∷ 0x08 ∷ 0x21 ∷ 0x18 ∷ [] is explained_at 2)
    ∷ []

-- each capture of the table has its answer, with n = 2, mask 0, W = 3
abbrev pub AllRight : Bool → List Line → Type 0
AllRight hold [] = Unit {0}
AllRight hold ((bytes is j) ∷ rest) = Right 2 hold 0 3 bytes j × AllRight hold rest
