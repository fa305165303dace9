use Rattle.std.proofs.Common.{take, map}
use Rattle.std.specs.List.{AllZip}
use Rattle.serde_json.specs.View.{view}
use Rattle.topology_shape.specs.Format.{IsLocationOf}
use Rattle.topology_shape.proofs.locations.locations_in.Given as goal

abbrev pub invariant-loop-place : goal.invariant-loop-place
invariant-loop-place l = AllZip IsLocationOf (take l.place (map view l.item-items)) l.locations.items
