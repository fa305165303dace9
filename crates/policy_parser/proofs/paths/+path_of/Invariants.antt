use Rattle.std.proofs.Common.{◌≡◌, ◌+◌, ◌<◌, ◌*◌, List, [], ◌∷◌, length}
use Rattle.policy_grammar.specs.declared.limits.TheConstants.{MAX_NESTING}
use Rattle.policy_grammar.specs.declared.written.RawPath.{RawPath}
use Rattle.policy_grammar.specs.Machine.{Awaited, rep, reps, alts, opens, awaiting}
use Rattle.policy_parser.specs.Readers.{run_text}
use Rattle.policy_parser.proofs.paths.+path_of.Given as goal

-- a bracket or a bang takes from the room, and the readers call each other in turn
abbrev pub decreases-rep : goal.decreases-rep
decreases-rep l = 4 * l.room

abbrev pub decreases-sequence : goal.decreases-sequence
decreases-sequence l = 4 * l.room + 1

abbrev pub decreases-path_of : goal.decreases-path_of
decreases-path_of l = 4 * l.room + 2

abbrev pub decreases-group : goal.decreases-group
decreases-group l = 4 * l.room + 3

abbrev pub invariant-sequence-reps : goal.invariant-sequence-reps
invariant-sequence-reps l = record {
  reads : (k : List Awaited) (ps : List RawPath) → opens k + l.room ≡ MAX_NESTING → run_text l.fn.lexemes (awaiting (rep ∷ reps [] ∷ alts ps ∷ k) l.fn.left) ≡ run_text l.rest (awaiting (reps l.parts ∷ alts ps ∷ k) l.spare);
  shorter : length l.rest < length l.fn.lexemes;
}

abbrev pub decreases-sequence-reps : goal.decreases-sequence-reps
decreases-sequence-reps l = length l.rest

abbrev pub invariant-path_of-alternatives : goal.invariant-path_of-alternatives
invariant-path_of-alternatives l = record {
  reads : (k : List Awaited) → opens k + l.room ≡ MAX_NESTING → run_text l.fn.lexemes (awaiting (rep ∷ reps [] ∷ alts [] ∷ k) l.fn.left) ≡ run_text l.rest (awaiting (alts l.parts ∷ k) l.spare);
  shorter : length l.rest < length l.fn.lexemes;
}

abbrev pub decreases-path_of-alternatives : goal.decreases-path_of-alternatives
decreases-path_of-alternatives l = length l.rest
