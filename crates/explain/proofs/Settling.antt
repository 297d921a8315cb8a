-- The way back over a table of conditions: each step behind the place has its settled word, and each before it what it had.
use mathlib.Core.Path.{◌≡◌, sym, ap, ◌∙◌}
use mathlib.Core.Bool.{Bool}
use mathlib.Core.List.{List, ◌∷◌}
use Prim.Native.Nat.{ℕ, suc, ◌-◌, ◌≤◌, ◌<◌}
use native.Mathlib.Omega.{arith}
use lib.ListN.{length, get_or, take, drop, set, length-set}
use lib.Seq.{drop-cons, get_or-take, get_or-set_same, take-set-le, drop-set-lt, take-take}
use Rattle.explain.specs.Filling.{idle_back, settled_word, idle_before, settled}

pub record Settling (idle : Bool) (old table : List ℕ) (behind : Bool) (at : ℕ) : Type 0 where
  pub within : at ≤ length old
  pub long : length table ≡ length old
  pub before : take at table ≡ take at old
  pub settles : drop at table ≡ settled idle (drop at old)
  pub state : behind ≡ idle_before idle (drop at old)

-- a list from the entry on that was written
written_at : (list : List ℕ) (i v : ℕ) → i < length list → drop i (set list i v) ≡ v ∷ drop (suc i) list
written_at list i v h =
    drop-cons (set list i v) i 0 (rw (length-set list i v) h)
    ∙ (λ k. get_or-set_same list i v 0 h k ∷ drop-set-lt (suc i) list i v (omega arith) k)

module _ {idle : Bool} {old table : List ℕ} {behind : Bool} {at : ℕ} (p : Settling idle old table behind at) where
  abbrev place : ℕ
  place = at - 1

  abbrev word : ℕ
  word = get_or table place 0

  module _ (some : 0 < at) where
    next : suc place ≡ at
    next = omega arith

    pub in_table : place < length table
    in_table =
        let within = p.within in
        let long = p.long in
        omega arith

    -- nothing was written there yet
    same_word : word ≡ get_or old place 0
    same_word =
        sym (get_or-take at table place 0 (omega arith))
        ∙ ap (λ (l : List ℕ). get_or l place 0) p.before
        ∙ get_or-take at old place 0 (omega arith)

    from_here : drop place old ≡ word ∷ drop at old
    from_here =
        let within = p.within in
        drop-cons old place 0 (omega arith) ∙ (λ k. sym same_word k ∷ drop (next k) old)

    pub settling_next : {value : ℕ} {before : Bool} → value ≡ settled_word behind word → before ≡ idle_back behind word
        → Settling idle old (set table place value) before place
    settling_next {value} e f =
        let within = p.within in
        let is : value ≡ settled_word (idle_before idle (drop at old)) word = e ∙ (λ k. settled_word (p.state k) word) in
        let rest : drop (suc place) table ≡ settled idle (drop at old) =
        ap (λ (i : ℕ). drop i table) next ∙ p.settles in
        record {
          within = omega arith;
          long = length-set table place value ∙ p.long;
          before =
              take-set-le place table place value (omega arith)
              ∙ sym (take-take place at table (omega arith))
              ∙ ap (take place) p.before
              ∙ take-take place at old (omega arith);
          settles =
              written_at table place value in_table ∙ (λ k. is k ∷ rest k) ∙ ap (settled idle) (sym from_here);
          state = f ∙ (λ k. idle_back (p.state k) word) ∙ ap (idle_before idle) (sym from_here);
        }
