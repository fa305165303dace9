use Rattle.topology.specs.Symbols.{network_symbols}
use Rattle.delegation.proofs.Questions.{joins-sound}
use Rattle.delegation.proofs.whole_trees.ask_joins.Goals as goal

pub ask_acceptance-requires-clause-sound : goal.ask_acceptance-requires-clause-sound
ask_acceptance-requires-clause-sound c =
    joins-sound c.args.net.now (network_symbols c.args.net.now) c.args.nodes.now c.in-Ok.joins.items c.requires.sizes c.in-Ok.ensures.ok
