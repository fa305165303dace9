use Rattle.std.proofs.Common.{map, take}
use Rattle.openflow_rules.specs.Sources.{listed_loc, AreMarkedAmong}
use Rattle.openflow_rules.proofs.walk_rows.start_marks.Given as goal

abbrev pub invariant-loop-start : goal.invariant-loop-start
invariant-loop-start l = AreMarkedAmong l.locations (map (listed_loc l.vertices) (take l.start-index l.starts)) l.marks
