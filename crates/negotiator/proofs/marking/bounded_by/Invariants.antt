use Rattle.std.proofs.Common.{true}
use Rattle.refinement_model.specs.Refinement.{IsIn}
use Rattle.negotiator.specs.Marks.{AreMarkedUpTo}
use Rattle.negotiator.proofs.marking.bounded_by.Given as goal

abbrev pub invariant-loop-statement : goal.invariant-loop-statement
invariant-loop-statement l = AreMarkedUpTo true (IsIn l.policy.policy l.term) l.statement l.marks.items
