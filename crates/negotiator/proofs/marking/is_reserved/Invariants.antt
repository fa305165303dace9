use Rattle.std.proofs.Common.{ℕ, ◌≡◌, ◌<◌, Some, slice_get}
use Rattle.merlin_model.specs.declared.policy.Bound.TheVariants.{Min}
use Rattle.merlin_model.specs.declared.policy.Term.{Term}
use Rattle.refinement_model.specs.Refinement.{IsIn}
use Rattle.negotiator.proofs.marking.is_reserved.Given as goal

abbrev pub invariant-loop-term : goal.invariant-loop-term
invariant-loop-term l = (k : ℕ) (t : Term) → k < l.term-index → slice_get l.terms k ≡ Some t → t.bound ≡ Min → ¬ IsIn l.policy.policy t l.statement
