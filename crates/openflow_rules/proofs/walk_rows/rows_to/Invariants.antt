use Rattle.std.proofs.Common.{◌≡◌, map, take}
use Rattle.std.specs.List.{AllByRecursion}
use Rattle.openflow_rules.specs.Sources.{IsWalkRow}
use Rattle.openflow_rules.proofs.walk_rows.rows_to.Given as goal

abbrev pub invariant-loop-dest : goal.invariant-loop-dest
invariant-loop-dest l = record {
  dests : map (λ row. row.dest) l.rows ≡ take l.dest-index l.hosts;
  each : AllByRecursion (IsWalkRow l.site.net.now l.site.checked.now.policy l.statement) l.rows;
}
