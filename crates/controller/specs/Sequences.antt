-- The sequences P1 to P13 of document 01, P13 as 02, d has it: n = 2, without hold, mask 0, W = 3, conditions good, no command
-- unless given.
use Rattle.std.specs.Prelude.{Bool, false, ◌&&◌, List, [], ◌∷◌, ℕ, eqb}
use Rattle.controller.specs.Settings.{fresh}
use Rattle.controller.specs.Step.{step}
use Rattle.controller.specs.declared.Controller.{Controller}
use Rattle.controller.specs.Step.{Stepped}

-- a value that the paper gives of an answer
pub data Value : Type 0 where
  sends : ℕ → ℕ → Value
  selector mark fate : ℕ → Value

abbrev pub has : Stepped → Value → Bool
has o (sends a b) = eqb o.k1 a && eqb o.k2 b
has o (selector c) = eqb o.selector c
has o (mark m) = eqb o.mark m
has o (fate f) = eqb o.fate f

-- the step is not refused, and has the values
abbrev pub gives : Stepped → List Value → Bool
gives o [] = eqb o.refusal 0
gives o (v ∷ rest) = has o v && gives o rest

abbrev good : List ℕ
good = 0 ∷ 0 ∷ 0 ∷ []

-- section 2 degraded; section 1 failed; section 0 failed; sections 1 and 2 failed
abbrev degraded2 : List ℕ
degraded2 = 0 ∷ 0 ∷ 1 ∷ []

abbrev failed1 : List ℕ
failed1 = 0 ∷ 2 ∷ 0 ∷ []

abbrev failed0 : List ℕ
failed0 = 2 ∷ 0 ∷ 0 ∷ []

abbrev failed12 : List ℕ
failed12 = 0 ∷ 2 ∷ 2 ∷ []

abbrev new : Controller
new = fresh 2 false 0 3

abbrev receives : Controller → ℕ → ℕ → List ℕ → Stepped
receives s k1 k2 conditions = step s k1 k2 conditions 0 0

abbrev p1 : Stepped
p1 = receives new 0x00 0x08 good

abbrev p2 : Stepped
p2 = receives new 0x00 0x08 degraded2

abbrev p3 : Stepped
p3 = receives p2.controller 0x22 0x28 degraded2

abbrev p4 : Stepped
p4 = receives new 0xA2 0x08 good

abbrev p5 : Stepped
p5 = receives p4.controller 0xA2 0x28 good

abbrev p6 : Stepped
p6 = receives p5.controller 0xA2 0x28 failed1

abbrev p7 : Stepped
p7 = receives p3.controller 0xC1 0x08 degraded2

-- P8, and with the same received pair once, twice, three times more, P9
abbrev p8 : Stepped
p8 = receives p3.controller 0x22 0x28 good

abbrev p9 : Stepped
p9 = receives p8.controller 0x22 0x28 good

abbrev p9' : Stepped
p9' = receives p9.controller 0x22 0x28 good

abbrev p9'' : Stepped
p9'' = receives p9'.controller 0x22 0x28 good

abbrev p10 : Stepped
p10 = step new 0x00 0x08 failed0 3 1

abbrev p11 : Stepped
p11 = receives new 0x00 0x08 failed12

-- with mask 2
abbrev p11' : Stepped
p11' = receives (fresh 2 false 2 3) 0x00 0x08 failed12

abbrev p12 : Stepped
p12 = receives p2.controller 0x11 0x08 degraded2

-- last sent C2, accepted 00 08
abbrev p13 : Stepped
p13 =
    receives (record { n = 2; hold = false; mask = 0; w = 3; k1 = 0x00; k2 = 0x08; sent = 0xC2; left = 0; held = 0x00 })
    0x00 0x08 failed12

-- a line of the table: a step, and every value that the paper gives of its answer
infix 15 ◌answers◌
pub data Line : Type 0 where
  ◌answers◌ : Stepped → List Value → Line

abbrev pub is_right : Line → Bool
is_right (o answers values) = gives o values

abbrev pub sequences : List Line
sequences =
    (p1 answers sends 0x00 0x08 ∷ selector 0 ∷ [])
    ∷ (p2 answers sends 0xA2 0x08 ∷ selector 0 ∷ [])
    ∷ (p3 answers sends 0xA2 0x28 ∷ selector 2 ∷ [])
    ∷ (p4 answers sends 0x22 0x28 ∷ selector 0 ∷ [])
    ∷ (p5 answers sends 0x22 0x28 ∷ selector 2 ∷ [])
    ∷ (p6 answers sends 0xC1 0x08 ∷ selector 0 ∷ [])
    ∷ (p7 answers sends 0x21 0x18 ∷ selector 0 ∷ [])
    ∷ (p8 answers sends 0x62 0x28 ∷ selector 2 ∷ [])
    ∷ (p9 answers sends 0x62 0x28 ∷ [])
    ∷ (p9' answers sends 0x62 0x28 ∷ [])
    ∷ (p9'' answers sends 0x00 0x28 ∷ selector 0 ∷ [])
    ∷ (p10 answers sends 0xD0 0x08 ∷ fate 2 ∷ [])
    ∷ (p11 answers sends 0xC1 0x08 ∷ [])
    ∷ (p11' answers sends 0xD2 0x08 ∷ [])
    ∷ (p12 answers sends 0xA2 0x08 ∷ mark 3 ∷ [])
    ∷ (p13 answers sends 0xC2 0x08 ∷ [])
    ∷ []
