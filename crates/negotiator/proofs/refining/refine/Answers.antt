use Rattle.topology.specs.Symbols.{network_symbols}
use Rattle.refinement_model.specs.Refinement.{Refines}
use Rattle.negotiator.specs.Refusals.{KeepsUsages}
use Rattle.negotiator.proofs.Finding.{on-ok}
use Rattle.negotiator.proofs.Refined.{once, within-of}
use Rattle.negotiator.proofs.refining.refine.Goals as goal

pub ask_rules-requires : goal.ask_rules-requires
ask_rules-requires c = record {
  within = within-of c.args.net.now c.args.parent.now.policy c.args.child.now.policy c.in_ok-comparison.comparison.contacts.items
      c.in_ok-comparison.ensures.touching c.statements-parent.ensures.sound c.statements-child.ensures.sound;
}

pub returns-clause-usages : goal.returns-clause-usages
returns-clause-usages c =
    let net = c.args.net.now in
    let parent = c.args.parent.now.policy in
    let child = c.args.child.now.policy in
    let one = once net parent child c.statements-parent.ensures.sound in
    on-ok c.ask_rules.result (Refines net parent child) (KeepsUsages net parent child)
    (λ refines traffic allowed. record {
      caps = λ keeps term contains max. c.refined_usage_keeps_caps.ensures net parent child traffic refines allowed keeps term contains max (one term contains);
      reserves = λ keeps term contains min. c.refined_usage_keeps_reserves.ensures.terms net parent child traffic refines allowed keeps term contains min (one term contains);
      outside = λ keeps j none. c.refined_usage_keeps_reserves.ensures.outside net parent child traffic refines allowed keeps j none;
    })
    (c.ask_rules.ensures.ok net (network_symbols net) (record { touching = c.in_ok-comparison.ensures.touching; paths = c.in_ok-comparison.ensures.paths }))
