use Rattle.std.proofs.Common.{◌≡◌, map, take}
use Rattle.topology.specs.Symbols.{network_symbols}
use Rattle.delegation.specs.Asking.{IsSoBefore}
use Rattle.delegation.specs.NamedJoins.{rated_policy}
use Rattle.delegation.specs.TreeRules.{KeepsOwnRules}
use Rattle.delegation.proofs.own_policies.rate_each.Given as goal

abbrev pub invariant-loop-number : goal.invariant-loop-number
invariant-loop-number l = record {
  rated : l.rated ≡ map (λ n. rated_policy n.policy) (take l.number l.nodes);
  kept : IsSoBefore l.nodes (KeepsOwnRules l.net (network_symbols l.net) l.nodes) l.number;
}
