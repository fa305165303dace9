use Rattle.std.proofs.Common.{◌≡◌, map, filter, take}
use Rattle.delegation.specs.NamedTrees.{has_parent}
use Rattle.delegation.proofs.joining.scopes_of.Given as goal

abbrev pub invariant-loop-node : goal.invariant-loop-node
invariant-loop-node l = l.scopes ≡ map (λ n. n.scope) (filter (has_parent l.place) (take l.node-index l.nodes))
