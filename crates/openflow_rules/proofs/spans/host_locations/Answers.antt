use Rattle.std.proofs.Common.{◌∙◌}
use Rattle.merlin_model.specs.Networks.{kind_of}
use Rattle.rules_model.specs.Tables.{is_host_kind}
use Rattle.openflow_rules.proofs.Steps.{range-filter}
use Rattle.openflow_rules.proofs.spans.host_locations.Goals as goal

pub loop-loc-preserved : goal.loop-loc-preserved
loop-loc-preserved c = c.in_ok-add_if_host.ensures ∙ range-filter (λ h. is_host_kind (kind_of c.args.net.now h)) c.loop-loc.loc c.loop-loc.hosts c.loop-loc.invariant
