use Rattle.std.proofs.Common.{take}
use Rattle.openflow_rules.specs.Sources.{AreSenders}
use Rattle.openflow_rules.proofs.senders.senders.Given as goal

abbrev pub invariant-loop-host : goal.invariant-loop-host
invariant-loop-host l = AreSenders l.net l.pred l.rows (take l.host-index l.hosts) l.found.items
