use Rattle.std.proofs.Common.{take}
use Rattle.policy_flows.proofs.Heaviest.{IsLeastAmong}
use Rattle.policy_flows.proofs.weights.least_heavy.Given as goal

abbrev pub invariant-loop-edge : goal.invariant-loop-edge
invariant-loop-edge l = IsLeastAmong l.links l.flow (take l.edge-index l.flow.edges) l.least
