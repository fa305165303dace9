use Rattle.std.proofs.Common.{◌≡◌, ◌+◌, take}
use Rattle.policy_flows.specs.declared.limits.TheConstants.{MAX_PRODUCT_EDGES}
use Rattle.policy_flows.specs.Layouts.{edges_of_flows}
use Rattle.policy_flows.proofs.layout.ask_edges.Given as goal

abbrev pub invariant-loop-flow : goal.invariant-loop-flow
invariant-loop-flow l = l.room + edges_of_flows (take l.flow-index l.flows) ≡ MAX_PRODUCT_EDGES
