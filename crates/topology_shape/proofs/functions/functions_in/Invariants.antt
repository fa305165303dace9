use Rattle.std.proofs.Common.{take, map}
use Rattle.std.specs.List.{AllZip}
use Rattle.serde_json.specs.View.{view}
use Rattle.topology_shape.specs.Format.{IsFunctionOf, location_names}
use Rattle.topology_shape.proofs.functions.functions_in.Given as goal

abbrev pub invariant-loop-place : goal.invariant-loop-place
invariant-loop-place l = AllZip (IsFunctionOf (location_names l.named)) (take l.place (map view l.item-items)) l.functions.items
