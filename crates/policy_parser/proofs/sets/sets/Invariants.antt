use Rattle.std.proofs.Common.{◌≡◌, [], ◌∷◌, length}
use Rattle.policy_grammar.specs.Machine.{sets, awaiting, first_state}
use Rattle.policy_parser.specs.Readers.{run_text}
use Rattle.policy_parser.proofs.sets.sets.Given as goal

abbrev pub invariant-sets : goal.invariant-sets
invariant-sets l = run_text l.fn.lexemes first_state ≡ run_text l.rest (awaiting (sets l.sets ∷ []) 0)

abbrev pub decreases-sets : goal.decreases-sets
decreases-sets l = length l.rest
