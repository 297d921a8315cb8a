-- No candidate has a rank above the asked one, and nobody whose turn came before has it.
use Rattle.std.proofs.Common.{◌≡◌, ℕ, ◌<◌, List, drop}
use Rattle.request.specs.declared.Request.{Request}
use Rattle.controller.specs.Rules.{no_request}
use Rattle.controller.proofs.Nest.{Nest, Worked, Asked, Passed}
use Rattle.controller.proofs.local.local_request.Given as goal

abbrev pub nest_of : ℕ → Request → ℕ → List ℕ → Request → Request → List ℕ → ℕ → Nest
nest_of mask last protection conditions command wait ranks past_last =
    record {
      mask = mask;
      last = last;
      protection = protection;
      working = drop 1 conditions;
      command = command;
      wait = wait;
      ranks = ranks;
      past_last = past_last;
    }

abbrev pub invariant-ranks : goal.invariant-ranks
invariant-ranks l =
    let nest = nest_of l.mask l.last l.protection l.conditions l.command.request l.fn.wait l.ranks l.past_last in
    Worked nest × Asked nest l.rank × (l.found ≡ no_request)

abbrev pub invariant-loop-at : goal.invariant-loop-at
invariant-loop-at l =
    Passed (nest_of l.mask l.last l.protection l.conditions l.command.request l.fn.wait l.ranks l.past_last) l.rank
    (λ (t : ℕ). t < l.at)
    × (l.found ≡ l.initial.found)
