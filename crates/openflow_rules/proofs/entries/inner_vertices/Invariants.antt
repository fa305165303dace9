use Rattle.std.proofs.Common.{◌≡◌, filter, take}
use Rattle.openflow_rules.specs.Gathered.{is_inner}
use Rattle.openflow_rules.proofs.entries.inner_vertices.Given as goal

abbrev pub invariant-loop-vertex : goal.invariant-loop-vertex
invariant-loop-vertex l = l.inner ≡ filter (is_inner l.net) (take l.vertex-index l.vertices)
