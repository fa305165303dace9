use Rattle.merlin_model.proofs.Members.{in_from, in_to}
use Rattle.topology.specs.Symbols.{network_symbols}
use Rattle.topology.proofs.Listing.{symbol-in, in-symbol, symbols-differ}
use Rattle.topology.proofs.laws.symbols_are_all.Goals as goal

pub returns-clause-each : goal.returns-clause-each
returns-clause-each c = λ net x. ((λ i. in-symbol net x (in_from (network_symbols net) x i)), (λ is. in_to (network_symbols net) x (symbol-in net x is)))

pub returns-clause-once : goal.returns-clause-once
returns-clause-once c = symbols-differ
