use Rattle.std.proofs.Common.{rules, inl, inr, refl}
use Rattle.std.proofs.lemmas.Result.{err_from_is_err_and}
use Rattle.serde_json.specs.View.{view}
use Rattle.topology_shape.specs.Json.{IsObject}
use Rattle.topology_shape.specs.Format.{location_names}
use Rattle.topology_shape.specs.Wrong.{IsWrongLink}
use Rattle.topology_shape.proofs.Demands.{there, not_there, wrong_member}
use Rattle.topology_shape.proofs.links.link_of.Goals as goal

pub returns-in_err-a-clause-err : goal.returns-in_err-a-clause-err
returns-in_err-a-clause-err c =
    let object : IsObject (view c.args.value.now) = search rules in
    let p = err_from_is_err_and c.from_residual.result c.from_residual.ensures.1 in
    wrong_member (IsWrongLink (location_names c.args.named.now) (view c.args.value.now)) c.end_of.result _ c.in_err-a.field-0.0 p.0 c.from_residual.result p.1 p.2 c.in_err-a.ensures.ok_part c.in_err-a.ensures.value
    (inr (
      object,
      inl (refl, λ found. not_there _ c.end_of.result c.in_err-a.ensures.ok_part c.end_of.ensures.none found.0 found.1),
    ))

pub returns-in_err-b-clause-err : goal.returns-in_err-b-clause-err
returns-in_err-b-clause-err c =
    let object : IsObject (view c.args.value.now) = search rules in
    let p = err_from_is_err_and c.from_residual-in_err-b.result c.from_residual-in_err-b.ensures.1 in
    wrong_member (IsWrongLink (location_names c.args.named.now) (view c.args.value.now)) c.other_end_of.result _ c.in_err-b.field-0.0 p.0 c.from_residual-in_err-b.result p.1 p.2 c.in_err-b.ensures.ok_part c.in_err-b.ensures.value
    (inr (
      object,
      inr (
        (c.in_ok-a.a, there _ c.end_of.result c.in_ok-a.a c.in_ok-a.ensures.ok_part c.end_of.ensures.some),
        inr (
          (c.in_ok-aport.aport, there _ c.port_of.result c.in_ok-aport.aport c.in_ok-aport.ensures.ok_part c.port_of.ensures.some),
          inl (refl, λ found. not_there _ c.other_end_of.result c.in_err-b.ensures.ok_part c.other_end_of.ensures.none found.0 found.1),
        ),
      ),
    ))

pub returns-in_err-bport-clause-err : goal.returns-in_err-bport-clause-err
returns-in_err-bport-clause-err c =
    let object : IsObject (view c.args.value.now) = search rules in
    let p = err_from_is_err_and c.from_residual-in_err-bport.result c.from_residual-in_err-bport.ensures.1 in
    wrong_member (IsWrongLink (location_names c.args.named.now) (view c.args.value.now)) c.port_of-2.result _ c.in_err-bport.field-0.0 p.0 c.from_residual-in_err-bport.result p.1 p.2 c.in_err-bport.ensures.ok_part c.in_err-bport.ensures.value
    (inr (
      object,
      inr (
        (c.in_ok-a.a, there _ c.end_of.result c.in_ok-a.a c.in_ok-a.ensures.ok_part c.end_of.ensures.some),
        inr (
          (c.in_ok-aport.aport, there _ c.port_of.result c.in_ok-aport.aport c.in_ok-aport.ensures.ok_part c.port_of.ensures.some),
          inr (
            (c.in_ok-b.b, there _ c.other_end_of.result c.in_ok-b.b c.in_ok-b.ensures.ok_part c.other_end_of.ensures.some),
            inl (refl, λ found. not_there _ c.port_of-2.result c.in_err-bport.ensures.ok_part c.port_of-2.ensures.none found.0 found.1),
          ),
        ),
      ),
    ))

pub returns-in_err-capacity-clause-err : goal.returns-in_err-capacity-clause-err
returns-in_err-capacity-clause-err c =
    let object : IsObject (view c.args.value.now) = search rules in
    let p = err_from_is_err_and c.from_residual-in_err-capacity.result c.from_residual-in_err-capacity.ensures.1 in
    wrong_member (IsWrongLink (location_names c.args.named.now) (view c.args.value.now)) c.capacity_under.result _ c.in_err-capacity.field-0.0 p.0 c.from_residual-in_err-capacity.result p.1 p.2 c.in_err-capacity.ensures.ok_part c.in_err-capacity.ensures.value
    (inr (
      object,
      inr (
        (c.in_ok-a.a, there _ c.end_of.result c.in_ok-a.a c.in_ok-a.ensures.ok_part c.end_of.ensures.some),
        inr (
          (c.in_ok-aport.aport, there _ c.port_of.result c.in_ok-aport.aport c.in_ok-aport.ensures.ok_part c.port_of.ensures.some),
          inr (
            (c.in_ok-b.b, there _ c.other_end_of.result c.in_ok-b.b c.in_ok-b.ensures.ok_part c.other_end_of.ensures.some),
            inr (
              (c.in_ok-bport.bport, there _ c.port_of-2.result c.in_ok-bport.bport c.in_ok-bport.ensures.ok_part c.port_of-2.ensures.some),
              inl (refl, λ found. not_there _ c.capacity_under.result c.in_err-capacity.ensures.ok_part c.capacity_under.ensures.none found.0 found.1),
            ),
          ),
        ),
      ),
    ))

pub returns-in_err-back-clause-err : goal.returns-in_err-back-clause-err
returns-in_err-back-clause-err c =
    let object : IsObject (view c.args.value.now) = search rules in
    let p = err_from_is_err_and c.from_residual-in_err-back.result c.from_residual-in_err-back.ensures.1 in
    wrong_member (IsWrongLink (location_names c.args.named.now) (view c.args.value.now)) c.back_of.result _ c.in_err-back.field-0.0 p.0 c.from_residual-in_err-back.result p.1 p.2 c.in_err-back.ensures.ok_part c.in_err-back.ensures.value
    (inr (
      object,
      inr (
        (c.in_ok-a.a, there _ c.end_of.result c.in_ok-a.a c.in_ok-a.ensures.ok_part c.end_of.ensures.some),
        inr (
          (c.in_ok-aport.aport, there _ c.port_of.result c.in_ok-aport.aport c.in_ok-aport.ensures.ok_part c.port_of.ensures.some),
          inr (
            (c.in_ok-b.b, there _ c.other_end_of.result c.in_ok-b.b c.in_ok-b.ensures.ok_part c.other_end_of.ensures.some),
            inr (
              (c.in_ok-bport.bport, there _ c.port_of-2.result c.in_ok-bport.bport c.in_ok-bport.ensures.ok_part c.port_of-2.ensures.some),
              inr (
                (c.in_ok-capacity.capacity, there _ c.capacity_under.result c.in_ok-capacity.capacity c.in_ok-capacity.ensures.ok_part c.capacity_under.ensures.some),
                inl (refl, λ found. not_there _ c.back_of.result c.in_err-back.ensures.ok_part c.back_of.ensures.none found.0 found.1 found.2),
              ),
            ),
          ),
        ),
      ),
    ))

pub returns-in_err-weight-clause-err : goal.returns-in_err-weight-clause-err
returns-in_err-weight-clause-err c =
    let object : IsObject (view c.args.value.now) = search rules in
    let p = err_from_is_err_and c.from_residual-in_err-weight.result c.from_residual-in_err-weight.ensures.1 in
    wrong_member (IsWrongLink (location_names c.args.named.now) (view c.args.value.now)) c.weight_of.result _ c.in_err-weight.field-0.0 p.0 c.from_residual-in_err-weight.result p.1 p.2 c.in_err-weight.ensures.ok_part c.in_err-weight.ensures.value
    (inr (
      object,
      inr (
        (c.in_ok-a.a, there _ c.end_of.result c.in_ok-a.a c.in_ok-a.ensures.ok_part c.end_of.ensures.some),
        inr (
          (c.in_ok-aport.aport, there _ c.port_of.result c.in_ok-aport.aport c.in_ok-aport.ensures.ok_part c.port_of.ensures.some),
          inr (
            (c.in_ok-b.b, there _ c.other_end_of.result c.in_ok-b.b c.in_ok-b.ensures.ok_part c.other_end_of.ensures.some),
            inr (
              (c.in_ok-bport.bport, there _ c.port_of-2.result c.in_ok-bport.bport c.in_ok-bport.ensures.ok_part c.port_of-2.ensures.some),
              inr (
                (c.in_ok-capacity.capacity, there _ c.capacity_under.result c.in_ok-capacity.capacity c.in_ok-capacity.ensures.ok_part c.capacity_under.ensures.some),
                inr (
                  (c.in_ok-capacity.capacity, c.in_ok-back.back, there _ c.back_of.result c.in_ok-back.back c.in_ok-back.ensures.ok_part c.back_of.ensures.some),
                  inl (refl, λ found. not_there _ c.weight_of.result c.in_err-weight.ensures.ok_part c.weight_of.ensures.none found.0 found.1),
                ),
              ),
            ),
          ),
        ),
      ),
    ))
