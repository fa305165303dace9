use Rattle.std.proofs.Common.{map, codes, List, subst, sym}
use Rattle.serde_json.specs.View.{view}
use Rattle.serde_json.specs.declared.value.Value.{Value}
use Rattle.topology_shape.specs.Json.{HasItems}
use Rattle.topology_shape.specs.Format.{IsPlaceOf, location_names}
use Rattle.topology_shape.proofs.Elements.{elements_at, seen_at, zip_more_seen}
use Rattle.topology_shape.proofs.functions.places_of.Goals as goal

pub returns-in_default-place_of-clause-none : goal.returns-in_default-place_of-clause-none
returns-in_default-place_of-clause-none c = λ places found.
    let slice = c.deref-item-items.result.now in
    let has : HasItems (codes "places") (view c.args.value.now) (map view slice) = subst (λ (vs : List Value). HasItems (codes "places") (view c.args.value.now) (map view vs)) (sym c.deref-item-items.ensures.value) c.in-Some.ensures.some in
    let there = elements_at (IsPlaceOf (location_names c.args.named.now)) (codes "places") (view c.args.value.now) (map view slice) has c.loop-item.item-index (view c.item-item.result) (seen_at view slice c.loop-item.item-index c.item-item.result c.loop-item-test.true c.item-item.is) places found in
    c.in_default-place_of.ensures.none there.0 there.1

pub loop-item-preserved : goal.loop-item-preserved
loop-item-preserved c = rw c.in_ok-push.ensures.items (zip_more_seen (IsPlaceOf (location_names c.args.named.now)) view c.deref-item-items.result.now c.loop-item.places.items c.loop-item.item-index c.item-item.result c.in-Some-place_of.place c.loop-item-test.true c.item-item.is c.loop-item.invariant c.in-Some-place_of.ensures.some)
