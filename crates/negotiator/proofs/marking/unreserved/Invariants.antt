use Rattle.std.proofs.Common.{false}
use Rattle.refinement_model.specs.Refinement.{IsReserved}
use Rattle.negotiator.specs.Marks.{AreMarkedUpTo}
use Rattle.negotiator.proofs.marking.unreserved.Given as goal

abbrev pub invariant-loop-statement : goal.invariant-loop-statement
invariant-loop-statement l = AreMarkedUpTo false (IsReserved l.policy.policy) l.statement l.marks.items
