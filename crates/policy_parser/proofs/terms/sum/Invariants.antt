use Rattle.std.proofs.Common.{◌≡◌, ◌<◌, [], ◌∷◌, length}
use Rattle.merlin_model.specs.declared.policy.Bound.{Bound}
use Rattle.policy_grammar.specs.declared.written.WrittenPolicy.{WrittenPolicy}
use Rattle.policy_grammar.specs.Machine.{leading, sum_rest, awaiting}
use Rattle.policy_parser.specs.Readers.{run_text}
use Rattle.policy_parser.proofs.terms.sum.Given as goal

abbrev pub invariant-summands : goal.invariant-summands
invariant-summands l = record {
  reads : (w : WrittenPolicy) (b : Bound) → run_text l.fn.lexemes (awaiting (leading w b [] ∷ []) 0) ≡ run_text l.rest (awaiting (sum_rest w b l.parts ∷ []) 0);
  shorter : length l.rest < length l.fn.lexemes;
}

abbrev pub decreases-summands : goal.decreases-summands
decreases-summands l = length l.rest
