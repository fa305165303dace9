use Rattle.std.proofs.Common.{map, sym, ◌∙◌, ap}
use Rattle.std.proofs.lemmas.List.{take_all}
use Rattle.std.specs.List.{flat_map}
use Rattle.configuration_model.specs.Queues.{queues_on}
use Rattle.queue_and_tc.specs.Reserved.{queues_of_both}
use Rattle.queue_and_tc.proofs.Crossed.{by-links}
use Rattle.queue_and_tc.proofs.links.queues.Goals as goal

pub returns : goal.returns
returns c =
    let policy = c.args.checked.now.policy in
    let walks = map (λ w. w.items) c.args.walks.now in
    c.loop-link.invariant
    ∙ ap (flat_map (queues_of_both policy c.args.ends.now walks)) (take_all c.loop-link.link-index c.links-link-items.result.now c.loop-link-test.false ∙ c.links-link-items.ensures)
    ∙ sym (by-links (λ link. queues_on policy link 1 c.args.ends.now walks) c.args.net.now.links)
