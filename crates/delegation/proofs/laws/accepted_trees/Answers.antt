use Rattle.topology.specs.Symbols.{network_symbols}
use Rattle.delegation.proofs.Questions.{locally-accepted}
use Rattle.delegation.proofs.laws.accepted_trees.Goals as goal

pub returns-clause-accepted : goal.returns-clause-accepted
returns-clause-accepted c net nodes tree h = c.local_acceptance_of_a_tree.ensures.accepted net nodes tree (locally-accepted net (network_symbols net) nodes tree h)

pub returns-clause-refines : goal.returns-clause-refines
returns-clause-refines c net nodes composition tree h = c.local_acceptance_of_a_tree.ensures.refines net nodes composition tree (locally-accepted net (network_symbols net) nodes tree h)
