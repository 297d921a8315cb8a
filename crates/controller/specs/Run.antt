-- A run: steps one after the other, each with the record that the step before it answered.
use Rattle.std.specs.Prelude.{Bool, not, ◌&&◌, List, [], ◌∷◌, ℕ, ◌+◌, leb, eqb, length, drop}
use Rattle.pair.specs.Marks.{alarm}
use Rattle.request.specs.declared.Request.{Request}
use Rattle.controller.specs.Rules.{asked, rank_of_request, accepting, held_by, is_clear, kept, given, replaces_held, in_force}
use Rattle.controller.specs.Rules.{waiting, candidates}
use Rattle.controller.specs.Refusals.{conditions_fit, channel_fits}
use Rattle.controller.specs.Step.{protection, wait_of, acts_on, step}
use Rattle.controller.specs.declared.Controller.{Controller}
use Rattle.controller.specs.Step.{Stepped}

-- what one step is handed
pub record Input : Type 0 where
  pub k1 : ℕ
  pub k2 : ℕ
  pub conditions : List ℕ
  pub command : ℕ
  pub channel : ℕ

-- it meets none of refusals 4 to 7, with n sections
abbrev pub input_fits : ℕ → Input → Bool
input_fits n i =
    eqb (length i.conditions) (n + 1)
    && conditions_fit i.conditions
    && leb i.command 4
    && channel_fits n i.command i.channel

abbrev pub step_by : Controller → Input → Stepped
step_by s i = step s i.k1 i.k2 i.conditions i.command i.channel

-- the conditions that the step acts on, its candidates, and the request of the pair that it has accepted (02, c; rules 3
-- and 1)
abbrev pub conditions_in : Controller → Input → List ℕ
conditions_in s i = acts_on (alarm s.n i.k1 i.k2) i.conditions

abbrev pub candidates_in : Controller → Input → List Request
candidates_in s i =
    let last = asked s.sent in
    let prior = kept i.command (held_by s.hold s.held last) in
    let new = given i.command i.channel in
    candidates s.mask (protection (conditions_in s i)) (drop 1 (conditions_in s i))
    (in_force (replaces_held prior new) prior new) (waiting (wait_of s last i.command) last)

abbrev pub accepted_in : Controller → Input → Request
accepted_in s i = (accepting s (eqb (protection (conditions_in s i)) 2) i.k1 i.k2).request

-- neither a clear nor a command of higher rank than the held one is given (02, g)
abbrev pub leaves_held : Request → Input → Bool
leaves_held prior i =
    not (is_clear i.command) && leb (rank_of_request (given i.command i.channel)) (rank_of_request prior)

-- the answered record holds this command
abbrev pub holds : ℕ → Stepped → Bool
holds k1 o = eqb o.controller.held k1

abbrev pub not_refused : Stepped → Bool
not_refused o = eqb o.refusal 0

-- what the steps of a run answer
abbrev pub run : Controller → List Input → List Stepped
run s [] = []
run s (i ∷ rest) = step_by s i ∷ run (step_by s i).controller rest
