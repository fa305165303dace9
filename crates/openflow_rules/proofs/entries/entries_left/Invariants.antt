use Rattle.std.proofs.Common.{◌≡◌, ◌+◌, take}
use Rattle.std.specs.Prelude.{sum_by}
use Rattle.openflow_rules.proofs.Counting.{listed_entries}
use Rattle.openflow_rules.proofs.entries.entries_left.Given as goal

abbrev pub invariant-loop-vertex : goal.invariant-loop-vertex
invariant-loop-vertex l = l.left + sum_by (listed_entries l.vertices) (take l.vertex-index l.vertices) ≡ l.room
