use Rattle.openflow_rules.proofs.Kinding.{AreKindsBelow}
use Rattle.openflow_rules.proofs.groups.kinds_of.Given as goal

abbrev pub invariant-loop-statement : goal.invariant-loop-statement
invariant-loop-statement l = AreKindsBelow l.checked.policy l.forms l.statement l.kinds
