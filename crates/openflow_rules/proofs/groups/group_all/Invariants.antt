use Rattle.merlin_model.specs.Policies.{Policy}
use Rattle.openflow_rules.specs.Kinds.{AreKinds, AreGroupedBelow}
use Rattle.openflow_rules.proofs.groups.group_all.Given as goal

abbrev pub invariant-loop-statement : goal.invariant-loop-statement
invariant-loop-statement l = (policy : Policy) → AreKinds policy l.kinds → AreGroupedBelow policy l.kinds l.statement l.grouping
