use Rattle.std.proofs.Common.{◌≡◌, ◌+◌, take}
use Rattle.std.specs.Prelude.{sum_by}
use Rattle.policy_expansion.specs.declared.limits.TheConstants.{MAX_STATEMENTS}
use Rattle.delegation.specs.NamedTrees.{statement_count}
use Rattle.delegation.proofs.counting.room_beside.Given as goal

abbrev pub invariant-loop-node : goal.invariant-loop-node
invariant-loop-node l = l.left + sum_by (λ n. statement_count n.policy) (take l.node-index l.nodes) ≡ MAX_STATEMENTS
