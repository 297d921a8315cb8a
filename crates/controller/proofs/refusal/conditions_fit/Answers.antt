use Rattle.std.proofs.Common.{rules, ◌≡◌, refl, ap, ◌∙◌, Bool, ◌&&◌, ℕ, List, [], ◌∷◌, leb}
use Rattle.std.specs.List.{list_all}
use Rattle.std.proofs.lemmas.Iterator.{YieldsList-from_slice}
use Rattle.std.proofs.lemmas.Iterator.Search.{all_from_yields_List}
use borrow.Author.Tests.{tests}
use Rattle.controller.specs.Refusals.{conditions_fit}
use Rattle.controller.proofs.refusal.conditions_fit.Goals as goal

all_fit : (conditions : List ℕ) → list_all (λ x. leb x 2) conditions ≡ conditions_fit conditions
unfolding conditions_fit
all_fit [] = refl
all_fit (x ∷ rest) = ap (λ (b : Bool). leb x 2 && b) (all_fit rest)

pub returns : goal.returns
returns c =
    let xs = c.args.conditions.now in
    all_from_yields_List (λ x. leb x 2) _ _ _ c.all.ensures.ran (YieldsList-from_slice xs cc)
    (λ x b q k. search (rules, tests))
    ∙ all_fit xs
