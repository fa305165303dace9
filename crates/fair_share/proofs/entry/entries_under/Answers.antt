use Rattle.std.proofs.Common.{◌≡◌, List, map, sym, subst, arith}
use Rattle.serde_json.specs.View.{view}
use Rattle.serde_json.specs.declared.value.Value.{Value}
use Rattle.topology_shape.specs.Json.{HasItems}
use Rattle.fair_share.specs.Shape.{entry_words}
use Rattle.fair_share.specs.Failing.{FailsAsShape}
use Rattle.fair_share.proofs.NamedRates.{fails-weaker, wrong-part, wrong-entry, one-more-entry, all-entries}
use Rattle.fair_share.proofs.entry.entries_under.Goals as goal

pub returns-in-Err-Wrong-clause-err : goal.returns-in-Err-Wrong-clause-err
returns-in-Err-Wrong-clause-err c =
    let has : HasItems c.args.key.now (view c.args.value.now) (map view c.as_slice-items.result.now) = subst (λ (vs : List Value). HasItems c.args.key.now (view c.args.value.now) (map view vs)) (sym c.as_slice-items.ensures.value) c.in-Some.ensures.some in
    fails-weaker _ _ (λ what words. wrong-entry view c.args.key.now c.args.rate_key.now (view c.args.value.now) c.as_slice-items.result.now has c.loop-place.entries.items c.loop-place.place c.index-items-place.result c.in-Err-Wrong.part what
    (let t = c.loop-place-test.true in omega arith) c.index-items-place.is c.loop-place.invariant (wrong-part _ c.in-Err-Wrong.field-0 c.in-Err-Wrong.part c.in-Err-Wrong.field-0-is c.in-Err-Wrong.ensures.err) words) c.element_fault.result
    (subst (λ p. FailsAsShape (λ words. words ≡ entry_words c.args.key.now c.args.rate_key.now c.loop-place.place p) c.element_fault.result) c.in-Err-Wrong.part-is c.element_fault.ensures)

pub loop-place-preserved : goal.loop-place-preserved
loop-place-preserved c =
    let has : HasItems c.args.key.now (view c.args.value.now) (map view c.as_slice-items.result.now) = subst (λ (vs : List Value). HasItems c.args.key.now (view c.args.value.now) (map view vs)) (sym c.as_slice-items.ensures.value) c.in-Some.ensures.some in
    rw c.in_ok-push-in-Ok.ensures.items (one-more-entry view c.args.key.now c.args.rate_key.now (view c.args.value.now) c.as_slice-items.result.now has c.loop-place.entries.items c.loop-place.place c.index-items-place.result c.in-Ok.entry
    (let t = c.loop-place-test.true in omega arith) c.index-items-place.is c.loop-place.invariant c.in-Ok.ensures.ok)

pub returns-clause-ok : goal.returns-clause-ok
returns-clause-ok c =
    let has : HasItems c.args.key.now (view c.args.value.now) (map view c.as_slice-items.result.now) = subst (λ (vs : List Value). HasItems c.args.key.now (view c.args.value.now) (map view vs)) (sym c.as_slice-items.ensures.value) c.in-Some.ensures.some in
    all-entries view c.args.key.now c.args.rate_key.now (view c.args.value.now) c.as_slice-items.result.now has c.loop-place.entries.items c.loop-place.place (let t = c.loop-place-test.false in omega arith) c.loop-place.invariant
