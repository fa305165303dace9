use Rattle.std.proofs.Common.{take}
use Rattle.openflow_rules.specs.Gathered.{CountsFunctions}
use Rattle.openflow_rules.proofs.entries.functions_by_location.Given as goal

abbrev pub invariant-loop-vertex : goal.invariant-loop-vertex
invariant-loop-vertex l = CountsFunctions (take l.vertex-index l.vertices) l.locations l.counts
