use Rattle.openflow_rules.proofs.Sending.{senders-more}
use Rattle.openflow_rules.proofs.senders.senders.Goals as goal

pub loop-host-preserved : goal.loop-host-preserved
loop-host-preserved c =
    senders-more c.args.net.now c.args.pred.now c.args.rows.now c.args.hosts.now c.loop-host.host-index c.loop-host.found.items c.put_if_sending.new.found.items c.loop-host-test.true c.requires.ascend c.loop-host.invariant c.in_ok-put_if_sending.ensures
