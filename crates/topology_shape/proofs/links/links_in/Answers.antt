use Rattle.std.proofs.Common.{◌≤◌, length, map, codes, List, arith, subst, sym}
use Rattle.std.proofs.lemmas.List.{length-map}
use Rattle.serde_json.specs.View.{view}
use Rattle.serde_json.specs.declared.value.Value.{Value}
use Rattle.topology_shape.specs.Json.{HasItems}
use Rattle.topology_shape.specs.Format.{IsLinkOf, location_names}
use Rattle.topology_shape.specs.Wrong.{IsWrongLink}
use Rattle.topology_shape.proofs.Elements.{fails_from, wrong_item, zip_more_seen, zip_whole}
use Rattle.topology_shape.proofs.links.links_in.Goals as goal

pub returns-in-Err-clause-err : goal.returns-in-Err-clause-err
returns-in-Err-clause-err c =
    let slice = c.deref-item-items.result.now in
    let has : HasItems (codes "links") (view c.args.value.now) (map view slice) = subst (λ (vs : List Value). HasItems (codes "links") (view c.args.value.now) (map view vs)) (sym c.deref-item-items.ensures.value) c.in-Some.ensures.some in
    fails_from (wrong_item (IsLinkOf (location_names c.args.named.now)) (IsWrongLink (location_names c.args.named.now)) view (codes "links") (view c.args.value.now) slice c.loop-place.links.items c.loop-place.place c.item-item.result c.in-Err.member.now has c.loop-place-test.true c.item-item.is c.loop-place.invariant c.in-Err.ensures.err) c.wrong_member.result c.wrong_member.ensures

pub loop-place-preserved : goal.loop-place-preserved
loop-place-preserved c = rw c.in_ok-push-in-Ok.ensures.items (zip_more_seen (IsLinkOf (location_names c.args.named.now)) view c.deref-item-items.result.now c.loop-place.links.items c.loop-place.place c.item-item.result c.in-Ok.link c.loop-place-test.true c.item-item.is c.loop-place.invariant c.in-Ok.ensures.ok)

pub returns-clause-ok : goal.returns-clause-ok
returns-clause-ok c =
    let slice = c.deref-item-items.result.now in
    let has : HasItems (codes "links") (view c.args.value.now) (map view slice) = subst (λ (vs : List Value). HasItems (codes "links") (view c.args.value.now) (map view vs)) (sym c.deref-item-items.ensures.value) c.in-Some.ensures.some in
    let past : length (map view slice) ≤ c.loop-place.place = omega (arith, length-map slice view) in
    (map view slice, has, zip_whole (IsLinkOf (location_names c.args.named.now)) (map view slice) c.loop-place.links.items c.loop-place.place past c.loop-place.invariant)
