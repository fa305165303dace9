use Rattle.std.proofs.Common.{◌≡◌, ◌≤◌, [], ◌∷◌, length}
use Rattle.merlin_model.specs.declared.policy.Bound.{Bound}
use Rattle.policy_grammar.specs.declared.written.WrittenPolicy.{WrittenPolicy}
use Rattle.policy_grammar.specs.Machine.{leading, awaiting}
use Rattle.policy_parser.specs.Readers.{run_text}
use Rattle.policy_parser.proofs.terms.leading_part.Given as goal

abbrev pub invariant-rates : goal.invariant-rates
invariant-rates l = record {
  reads : (w : WrittenPolicy) (b : Bound) → run_text l.fn.lexemes (awaiting (leading w b [] ∷ []) 0) ≡ run_text l.rest (awaiting (leading w b l.parts ∷ []) 0);
  shorter : length l.rest ≤ length l.fn.lexemes;
}

abbrev pub decreases-rates : goal.decreases-rates
decreases-rates l = length l.rest
