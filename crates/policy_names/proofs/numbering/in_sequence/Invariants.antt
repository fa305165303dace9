use Rattle.std.proofs.Common.{◌≡◌, ◌∷◌, ◌++◌, [], length}
use Rattle.policy_grammar.specs.NumberedPaths.{in_sequence}
use Rattle.policy_names.proofs.numbering.in_sequence.Given as goal

abbrev pub invariant-loop-first : goal.invariant-loop-first
invariant-loop-first l = in_sequence (l.paths ++ l.sequence ∷ []) ≡ in_sequence l.fn.paths

abbrev pub decreases-loop-first : goal.decreases-loop-first
decreases-loop-first l = length l.paths
