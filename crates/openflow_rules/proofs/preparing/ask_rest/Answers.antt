use Rattle.std.proofs.Common.{length, sym, subst}
use Rattle.openflow_rules.specs.Gathered.{AreAllBelow}
use Rattle.openflow_rules.proofs.Inner.{hosts-below}
use Rattle.openflow_rules.proofs.preparing.ask_rest.Goals as goal

pub ask_cells-requires-clause-hosts : goal.ask_cells-requires-clause-hosts
ask_cells-requires-clause-hosts c = subst (AreAllBelow (length c.args.net.now.locations)) (sym c.requires.hosts) (hosts-below c.args.net.now)
