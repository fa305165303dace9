use Rattle.std.proofs.Common.{◌≡◌, map, take}
use Rattle.policy_flows.proofs.edges.symbols_of.Given as goal

abbrev pub invariant-loop-vertex : goal.invariant-loop-vertex
invariant-loop-vertex l = l.found ≡ map (λ v. v.symbol) (take l.vertex-index l.vertices)
