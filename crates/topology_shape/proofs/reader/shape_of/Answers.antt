use Rattle.std.proofs.Common.{rules, inr, codes, List, sym, subst}
use Rattle.std.proofs.lemmas.Result.{err_from_is_err_and}
use Rattle.serde_json.specs.View.{view}
use Rattle.merlin_model.specs.declared.network.Location.{Location}
use Rattle.topology_shape.specs.Json.{IsObject, HasElements}
use Rattle.topology_shape.specs.Format.{IsLocationOf}
use Rattle.topology_shape.proofs.Elements.{fails_from}
use Rattle.topology_shape.proofs.reader.shape_of.Goals as goal

pub returns-in_err-functions-clause-err : goal.returns-in_err-functions-clause-err
returns-in_err-functions-clause-err c =
    let d = view c.args.value.now in
    let object : IsObject d = search rules in
    let locations : HasElements IsLocationOf (codes "locations") d c.in_ok-named.named = subst (λ (ls : List Location). HasElements IsLocationOf (codes "locations") d ls) (sym c.in_ok-named.ensures) c.in_ok-locations.ensures.ok in
    let p = err_from_is_err_and c.from_residual-in_err-functions.result c.from_residual-in_err-functions.ensures.1 in
    rw (p.1, p.2) (fails_from (λ what wrong. inr (object, inr (c.in_ok-named.named, locations, inr (c.in_ok-links.links.items, c.in_ok-links.ensures.ok, wrong)))) _ c.in_err-functions.ensures.err)
