use Rattle.std.proofs.Common.{◌≡◌, map, take}
use Rattle.policy_flows.specs.Edges.{edge_in}
use Rattle.policy_flows.proofs.edges.edges_over.Given as goal

abbrev pub invariant-loop-edge : goal.invariant-loop-edge
invariant-loop-edge l = l.found ≡ map (edge_in l.links l.vertices) (take l.edge-index l.edges)
