use Rattle.openflow_rules.proofs.Sending.{all-hosts}
use Rattle.openflow_rules.proofs.walk_rows.rows_to.Goals as goal

pub row_to-requires-clause-dest : goal.row_to-requires-clause-dest
row_to-requires-clause-dest c = all-hosts c.args.site.now.net.now c.args.hosts.now c.loop-dest.dest-index c.requires.hosts c.loop-dest-test.true
