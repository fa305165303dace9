use Rattle.std.proofs.Common.{◌≡◌, ◌+◌, ◌<◌, ◌*◌, List, [], ◌∷◌, length}
use Rattle.merlin_model.specs.declared.policy.Pred.{Pred}
use Rattle.policy_grammar.specs.declared.limits.TheConstants.{MAX_NESTING}
use Rattle.policy_grammar.specs.Machine.{Awaited, literal, lits, conjs, opens, awaiting}
use Rattle.policy_parser.specs.Readers.{run_text}
use Rattle.policy_parser.proofs.predicates.+predicate.Given as goal

-- a bracket or a bang takes from the room, and the readers call each other in turn
abbrev pub decreases-literal : goal.decreases-literal
decreases-literal l = 3 * l.room

abbrev pub decreases-conjunction : goal.decreases-conjunction
decreases-conjunction l = 3 * l.room + 1

abbrev pub decreases-predicate : goal.decreases-predicate
decreases-predicate l = 3 * l.room + 2

abbrev pub invariant-conjunction-literals : goal.invariant-conjunction-literals
invariant-conjunction-literals l = record {
  reads : (k : List Awaited) (ps : List Pred) → opens k + l.room ≡ MAX_NESTING → run_text l.fn.lexemes (awaiting (literal ∷ lits [] ∷ conjs ps ∷ k) l.fn.left) ≡ run_text l.rest (awaiting (lits l.parts ∷ conjs ps ∷ k) l.spare);
  shorter : length l.rest < length l.fn.lexemes;
}

abbrev pub decreases-conjunction-literals : goal.decreases-conjunction-literals
decreases-conjunction-literals l = length l.rest

abbrev pub invariant-predicate-conjunctions : goal.invariant-predicate-conjunctions
invariant-predicate-conjunctions l = record {
  reads : (k : List Awaited) → opens k + l.room ≡ MAX_NESTING → run_text l.fn.lexemes (awaiting (literal ∷ lits [] ∷ conjs [] ∷ k) l.fn.left) ≡ run_text l.rest (awaiting (conjs l.parts ∷ k) l.spare);
  shorter : length l.rest < length l.fn.lexemes;
}

abbrev pub decreases-predicate-conjunctions : goal.decreases-predicate-conjunctions
decreases-predicate-conjunctions l = length l.rest
