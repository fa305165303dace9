use Rattle.std.proofs.Common.{take}
use Rattle.std.specs.List.{AllByRecursion}
use Rattle.policy_flows.specs.Faults.{IsLightFlow}
use Rattle.policy_flows.proofs.weights.ask_weights.Given as goal

abbrev pub invariant-loop-place : goal.invariant-loop-place
invariant-loop-place l = AllByRecursion (IsLightFlow l.links) (take l.place l.flows)
