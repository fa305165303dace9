use Rattle.std.proofs.Common.{◌≡◌, ◌≤◌, [], ◌∷◌, length}
use Rattle.merlin_model.specs.declared.policy.Pred.{Pred}
use Rattle.policy_grammar.specs.declared.written.RawPath.{RawPath}
use Rattle.policy_grammar.specs.Machine.{Heading, limit, awaiting}
use Rattle.policy_parser.specs.Readers.{run_text, opened}
use Rattle.policy_parser.proofs.items.limits.Given as goal

abbrev pub invariant-limits : goal.invariant-limits
invariant-limits l = record {
  reads : (h : Heading) (pred : Pred) (path : RawPath) → run_text l.fn.lexemes (awaiting (limit (opened h pred path []) ∷ []) 0) ≡ run_text l.rest (awaiting (limit (opened h pred path l.limits) ∷ []) 0);
  shorter : length l.rest ≤ length l.fn.lexemes;
}

abbrev pub decreases-limits : goal.decreases-limits
decreases-limits l = length l.rest
