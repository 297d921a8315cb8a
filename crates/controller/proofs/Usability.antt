-- Laws of the decoder's answer, as the rule on the accepted pair and refusal 3 use them.
use mathlib.Core.Path.{◌≡◌, refl, sym, ◌∙◌}
use mathlib.Core.Bool.{Bool, true, false, false≢true}
use Prim.Native.Nat.{ℕ}
use lib.Dec.{leb-zero}
use Rattle.basics.specs.Settings.{sections_fit}
use Rattle.pair.specs.Request.{requests, carries}
use Rattle.pair.specs.Marks.{code_of, channel_of, usable}
use Rattle.pair.specs.Coder.{decoded_case, pair_of, decoding}
use Rattle.pair.specs.declared.Decoded.{Decoded}
use Rattle.pair.specs.declared.Pair.{Pair}
use Rattle.pair.specs.declared.Decoded.TheVariants as decoded
use Rattle.pair.proofs.Coding.{nothing_found, fit_decoded, usable_parts, parts_usable}
use Rattle.controller.specs.Settings.{idle_k2}

-- an answer that is not the usable case comes of a pair that is not usable
pub other_unusable : (n k1 k2 : ℕ) (d : Decoded) → sections_fit n ≡ true → d ≡ decoded_case (decoding n k1 k2)
    → ((p : Pair) → d ≡ decoded.Usable p → ⊥) → usable n k1 k2 ≡ false
other_unusable n k1 k2 d fits e other = go (usable n k1 k2) refl
  where
    go : (t : Bool) → usable n k1 k2 ≡ t → usable n k1 k2 ≡ false
    go true t = absurd (other (pair_of k1 k2) (e ∙ fit_decoded n k1 k2 fits (nothing_found n k1 k2 t)))
    go false t = t

-- with the idle K2, a pair is usable where its K1 is in the table
pub idle_usable : (n k1 : ℕ) → sections_fit n ≡ true
    → usable n k1 idle_k2 ≡ carries requests n (code_of k1) (channel_of k1)
idle_usable n k1 fits = go (carries requests n (code_of k1) (channel_of k1)) (usable n k1 idle_k2) refl refl
  where
    go : (t z : Bool) → carries requests n (code_of k1) (channel_of k1) ≡ t → usable n k1 idle_k2 ≡ z
        → usable n k1 idle_k2 ≡ carries requests n (code_of k1) (channel_of k1)
    go true z e f =
        parts_usable n k1 idle_k2 record { fits = fits; one = refl; line = refl; carried = e; bridged = leb-zero n } ∙ sym e
    go false true e f = absurd (false≢true (sym e ∙ (usable_parts n k1 idle_k2 fits f).carried))
    go false false e f = f ∙ sym e
