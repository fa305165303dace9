use Rattle.openflow_rules.proofs.SourceSteps.{done-group}
use Rattle.openflow_rules.proofs.sources.put_group.Goals as goal

pub returns : goal.returns
returns c =
    done-group c.args.search.now.site.net.now c.args.search.now.site.checked.now.policy c.args.search.now.group_of.now c.args.group c.loop-statement.statement _ c.loop-statement-test.false c.loop-statement.invariant
