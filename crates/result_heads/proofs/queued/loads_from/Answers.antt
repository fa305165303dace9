use Rattle.std.proofs.Common.{ap, map, filter, nat_lt, length, subst, sym, ◌<◌, ◌∙◌}
use Rattle.std.specs.List.{All, AllByRecursion}
use Rattle.merlin_model.specs.Networks.{JoinsLocations, directed_links_of}
use Rattle.std.proofs.lemmas.List.{take_all}
use Rattle.std.proofs.lemmas.List.Elements.{All-from_recursion}
use Rattle.config_text.specs.Loads.{load_over}
use Rattle.result_heads.specs.Queued.{queued_on}
use Rattle.result_heads.proofs.Queues.{loads-present}
use Rattle.result_heads.proofs.queued.loads_from.Goals as goal

pub returns-clause-present : goal.returns-clause-present
returns-clause-present c =
    let net = c.args.net.now in
    let amount = queued_on c.args.queues.now in
    let all = c.loop-link.invariant
    ∙ ap (λ links. filter (λ load. nat_lt 0 load.load) (map (load_over amount) links)) (take_all c.loop-link.link-index c.deref-link-items.result.now c.loop-link-test.false ∙ c.deref-link-items.ensures.value ∙ c.in_ok-directed_links.ensures) in
    subst (λ loads. All (λ load. load.loc < length net.locations) loads) (sym all) (All-from_recursion _ _ (loads-present net amount _ (subst (λ links. AllByRecursion (JoinsLocations net) (directed_links_of links)) (sym c.links.ensures) c.locations-lawful.ensures.lawful.lawful.ends)))
