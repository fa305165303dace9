use Rattle.std.proofs.Common.{◌++◌, ◌∷◌, [], ◌∙◌, ap}
use Rattle.rules_model.specs.AttachedHosts.{attached_host_at}
use Rattle.rule_tables.proofs.Growing.{mapped-next}
use Rattle.rule_tables.proofs.entries.attached_hosts.Goals as goal

pub loop-loc-preserved : goal.loop-loc-preserved
loop-loc-preserved c =
    c.in_ok-push.ensures.items ∙ ap (λ o. c.loop-loc.hosts.items ++ o ∷ []) c.attached_host.ensures
    ∙ mapped-next (attached_host_at c.args.net.now) c.loop-loc.loc c.loop-loc.hosts.items c.loop-loc.invariant
