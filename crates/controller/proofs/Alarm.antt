-- Line bits 111 (02, c): a step that receives an alarm is a step with section 0 failed.
use mathlib.Core.Path.{◌≡◌, refl, ◌∙◌}
use mathlib.Core.Bool.{Bool, true, false, and-eq-true_iff}
use mathlib.Core.List.{List, [], ◌∷◌}
use Prim.Native.Nat.{ℕ}
use native.Mathlib.Omega.{arith}
use lib.Dec.{leb}
use lib.ListN.{drop}
use Rattle.pair.specs.Marks.{alarm}
use Rattle.controller.specs.Rules.{accepting}
use Rattle.controller.specs.Refusals.{conditions_fit, refusal}
use Rattle.controller.specs.Step.{protection, acts_on, moved, step}
use Rattle.controller.specs.declared.Controller.{Controller}
use Rattle.controller.proofs.Inputs.{well_formed}

-- section 0 alone may be seen otherwise
pub acts_protection : (t : Bool) (conditions : List ℕ)
    → protection (acts_on t (protection conditions ∷ [])) ≡ protection (acts_on t conditions)
acts_protection true conditions = refl
acts_protection false conditions = refl

pub acts_working : (t : Bool) (conditions : List ℕ) → drop 1 (acts_on t conditions) ≡ drop 1 conditions
acts_working true conditions = refl
acts_working false conditions = refl

-- and not where it has failed
acts_failed : (t : Bool) (working : List ℕ) → acts_on t (2 ∷ working) ≡ 2 ∷ working
acts_failed true working = refl
acts_failed false working = refl

module _ (s : Controller) (command c : ℕ) where
  -- no refusal depends on which condition section 0 has
  any_condition : (x y : ℕ) (working : List ℕ) → leb x 2 ≡ true → leb y 2 ≡ true
      → refusal s (x ∷ working) command c ≡ refusal s (y ∷ working) command c
  unfolding refusal conditions_fit
  any_condition x y working fits fits' = rw (fits, fits')

  -- what a step acts on is refused no more than what it was handed
  pub acts_unrefused : (t : Bool) (conditions : List ℕ) → refusal s conditions command c ≡ 0
      → refusal s (acts_on t conditions) command c ≡ 0
  unfolding conditions_fit
  acts_unrefused false conditions h = h
  acts_unrefused true [] h = let number = (well_formed s [] command c h).number in absurd (omega arith)
  acts_unrefused true (x ∷ working) h =
      let fit = (well_formed s (x ∷ working) command c h).conditions_fit in
      any_condition 2 x working refl ((and-eq-true_iff (leb x 2) (conditions_fit working)).0 fit).0 ∙ h

  -- with section 0 failed the received pair is not looked at
  not_looked_at : (k1 k2 j1 j2 : ℕ) (working : List ℕ)
      → moved s k1 k2 (2 ∷ working) command c ≡ moved s j1 j2 (2 ∷ working) command c
  unfolding moved accepting
  not_looked_at k1 k2 j1 j2 working = refl

  pub alarm_step : (k1 k2 j1 j2 x : ℕ) (working : List ℕ) → alarm s.n k1 k2 ≡ true → leb x 2 ≡ true
      → step s k1 k2 (x ∷ working) command c ≡ step s j1 j2 (2 ∷ working) command c
  unfolding step
  alarm_step k1 k2 j1 j2 x working e fits =
      rw (
        e,
        any_condition x 2 working fits refl,
        acts_failed (alarm s.n j1 j2) working,
        not_looked_at k1 k2 j1 j2 working,
      )
