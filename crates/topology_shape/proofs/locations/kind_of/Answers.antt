use Rattle.std.proofs.Common.{inl, inr, refl, codes, ℕ, List, subst}
use Rattle.std.proofs.lemmas.Result.{err_from_is_err_and}
use Rattle.serde_json.specs.View.{view}
use Rattle.topology_shape.specs.Json.{HasText}
use Rattle.topology_shape.specs.Wrong.{IsFirstUnmet, kind_demands, IsHostThere}
use Rattle.topology_shape.proofs.Demands.{there, not_there, wrong_member}
use Rattle.topology_shape.proofs.locations.kind_of.Goals as goal

pub returns-in_err-eth-in-host-clause-err : goal.returns-in_err-eth-in-host-clause-err
returns-in_err-eth-in-host-clause-err c =
    let d = view c.args.value.now in
    let host : IsHostThere d = subst (λ (t : List ℕ). HasText (codes "kind") d t) c.in-host.is (there _ c.text_under.result c.in_ok-ok_or.field-0 c.in_ok-ok_or.ensures.ok_part c.text_under.ensures.some) in
    let p = err_from_is_err_and c.from_residual-in_err-eth-in-host.result c.from_residual-in_err-eth-in-host.ensures.1 in
    wrong_member (IsFirstUnmet (kind_demands d)) c.mac_under.result _ c.in_err-eth-in-host.field-0.0 p.0 c.from_residual-in_err-eth-in-host.result p.1 p.2 c.in_err-eth-in-host.ensures.ok_part c.in_err-eth-in-host.ensures.value
    (inr (
      inl host,
      inl (refl, λ found. let it = found host in not_there _ c.mac_under.result c.in_err-eth-in-host.ensures.ok_part c.mac_under.ensures.none it.0 it.1),
    ))

pub returns-in_err-ip-in-host-clause-err : goal.returns-in_err-ip-in-host-clause-err
returns-in_err-ip-in-host-clause-err c =
    let d = view c.args.value.now in
    let host : IsHostThere d = subst (λ (t : List ℕ). HasText (codes "kind") d t) c.in-host.is (there _ c.text_under.result c.in_ok-ok_or.field-0 c.in_ok-ok_or.ensures.ok_part c.text_under.ensures.some) in
    let p = err_from_is_err_and c.from_residual-in_err-ip-in-host.result c.from_residual-in_err-ip-in-host.ensures.1 in
    wrong_member (IsFirstUnmet (kind_demands d)) c.ip_under.result _ c.in_err-ip-in-host.field-0.0 p.0 c.from_residual-in_err-ip-in-host.result p.1 p.2 c.in_err-ip-in-host.ensures.ok_part c.in_err-ip-in-host.ensures.value
    (inr (
      inl host,
      inr (
        (λ _. (c.in_ok-eth-in-host.eth, there _ c.mac_under.result c.in_ok-eth-in-host.eth c.in_ok-eth-in-host.ensures.ok_part c.mac_under.ensures.some)),
        inl (refl, λ found. let it = found host in not_there _ c.ip_under.result c.in_err-ip-in-host.ensures.ok_part c.ip_under.ensures.none it.0 it.1),
      ),
    ))
