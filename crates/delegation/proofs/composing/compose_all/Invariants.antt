use Rattle.std.proofs.Common.{◌≡◌, ◌≤◌, List, length, map}
use Rattle.policy_expansion.specs.declared.policy.Policy.{Policy}
use Rattle.delegation.specs.NamedJoins.{rated_policy}
use Rattle.delegation.specs.NamedTrees.{AreNamedCompositions, composed_from}
use Rattle.delegation.proofs.composing.compose_all.Given as goal

abbrev pub invariant-places : goal.invariant-places
invariant-places l = record {
  within : l.left ≤ length l.nodes;
  long : length l.rated ≡ length l.nodes;
  whole : (all : List Policy) → AreNamedCompositions l.nodes all → l.rated ≡ map rated_policy (composed_from l.nodes all l.left);
}

abbrev pub decreases-places : goal.decreases-places
decreases-places l = l.left
