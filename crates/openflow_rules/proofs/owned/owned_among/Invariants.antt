use Rattle.std.proofs.Common.{◌≡◌, take}
use Rattle.std.specs.List.{flat_map}
use Rattle.openflow_rules.specs.OwnedCells.{owned_from}
use Rattle.openflow_rules.proofs.owned.owned_among.Given as goal

abbrev pub invariant-loop-source : goal.invariant-loop-source
invariant-loop-source l = l.owned ≡ flat_map (owned_from l.net l.checked.policy l.group_of l.hosts) (take l.source-index l.hosts)
