use Rattle.std.proofs.Common.{rules, inl, inr, ◌≡◌, length}
use Rattle.serde_json.specs.View.{view}
use Rattle.topology_shape.specs.Json.{IsObject}
use Rattle.delegation_text.proofs.Carrying.{misshapen-weaker, empty-array}
use Rattle.delegation_text.proofs.written.nodes_in.Goals as goal

pub returns-then-is_empty-clause-err : goal.returns-then-is_empty-clause-err
returns-then-is_empty-clause-err c =
    let object : IsObject (view c.args.value.now) = search rules in
    let none : length c.in-Some.items.now.items ≡ 0 = search rules in
    misshapen-weaker _ _ (λ what e. inr (object, inl (e, empty-array view (view c.args.value.now) c.in-Some.items.now.items c.in-Some.ensures.some none))) c.shape_fault-then-is_empty.result c.shape_fault-then-is_empty.ensures
