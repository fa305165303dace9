use Rattle.std.proofs.Common.{◌≡◌, ◌++◌, take}
use Rattle.std.specs.List.{flat_map}
use Rattle.openflow_rules.specs.OwnedCells.{owned_between}
use Rattle.openflow_rules.proofs.owned.add_cells_from.Given as goal

abbrev pub invariant-loop-dest : goal.invariant-loop-dest
invariant-loop-dest l = l.owned ≡ l.fn.owned ++ flat_map (owned_between l.net l.checked.policy l.group_of l.source) (take l.dest-index l.hosts)
