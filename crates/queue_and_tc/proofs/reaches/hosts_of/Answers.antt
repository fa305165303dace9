use Rattle.std.proofs.Common.{◌∙◌}
use Rattle.merlin_model.specs.Networks.{kind_of}
use Rattle.rules_model.specs.Tables.{is_host_kind}
use Rattle.queue_and_tc.specs.HostTexts.{host_in}
use Rattle.queue_and_tc.proofs.ClassNumbers.{hosts-next}
use Rattle.queue_and_tc.proofs.reaches.hosts_of.Goals as goal

pub loop-loc-preserved : goal.loop-loc-preserved
loop-loc-preserved c = c.in_ok-add_host.ensures ∙ hosts-next (host_in c.args.net.now) (λ l. is_host_kind (kind_of c.args.net.now l)) c.loop-loc.loc c.loop-loc.hosts.items c.loop-loc.invariant
