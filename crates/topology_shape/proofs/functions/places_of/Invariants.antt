use Rattle.std.proofs.Common.{take, map}
use Rattle.std.specs.List.{AllZip}
use Rattle.serde_json.specs.View.{view}
use Rattle.topology_shape.specs.Format.{IsPlaceOf, location_names}
use Rattle.topology_shape.proofs.functions.places_of.Given as goal

abbrev pub invariant-loop-item : goal.invariant-loop-item
invariant-loop-item l = AllZip (IsPlaceOf (location_names l.named)) (take l.item-index (map view l.item-items)) l.places.items
