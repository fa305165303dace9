use Rattle.std.proofs.Common.{◌≡◌, take}
use Rattle.graph_search.specs.Graphs.{known_at}
use Rattle.price_candidates.specs.Leaves.{flow_weights}
use Rattle.price_candidates.specs.Tried.{missing, only}
use Rattle.price_bound.proofs.numbers.cut_numbers.Given as goal

abbrev pub invariant-loop-flow : goal.invariant-loop-flow
invariant-loop-flow l = l.numbers ≡ flow_weights (only l.cut (λ vertex. missing (known_at l.distances vertex))) 0 (take l.flow l.program.problem.flows)
