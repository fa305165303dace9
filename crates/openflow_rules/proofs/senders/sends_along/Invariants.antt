use Rattle.std.proofs.Common.{take}
use Rattle.std.specs.List.{AllByRecursion}
use Rattle.openflow_rules.specs.Sources.{SendsTo}
use Rattle.openflow_rules.proofs.senders.sends_along.Given as goal

abbrev pub invariant-loop-row : goal.invariant-loop-row
invariant-loop-row l = AllByRecursion (λ row. ¬ SendsTo l.net l.pred l.source row) (take l.row-index l.rows)
