use Rattle.std.proofs.Common.{rules, inl, inr, refl}
use Rattle.serde_json.specs.View.{view}
use Rattle.topology_shape.specs.Json.{IsObject}
use Rattle.topology_shape.proofs.Demands.{there, not_there}
use Rattle.topology_shape.proofs.functions.function_of.Goals as goal

pub returns-in_default-2-clause-err : goal.returns-in_default-2-clause-err
returns-in_default-2-clause-err c =
    let object : IsObject (view c.args.value.now) = search rules in
    inr (object, inr ((c.in-Some.name.now, c.in-Some.ensures.some), inl (refl, λ found. not_there _ c.in_ok-places.field-0 c.in_default-2.is c.in_ok-places.ensures.none found.0 found.1)))

pub returns-in_default-3-clause-err : goal.returns-in_default-3-clause-err
returns-in_default-3-clause-err c =
    let object : IsObject (view c.args.value.now) = search rules in
    inr (
      object,
      inr (
        (c.in-Some.name.now, c.in-Some.ensures.some),
        inr (
          (c.in-Some-2.places, there _ c.in_ok-places.field-0 c.in-Some-2.places c.in-Some-2.is c.in_ok-places.ensures.some),
          inl (refl, λ found. not_there _ c.in_ok-set.field-0 c.in_default-3.is c.in_ok-set.ensures.none found.0 found.1),
        ),
      ),
    )
