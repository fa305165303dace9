use Rattle.topology.specs.Symbols.{network_symbols}
use Rattle.delegation.specs.Acceptances.{AreAsked}
use Rattle.delegation.proofs.judging.first_refusal.Given as goal

abbrev pub invariant-loop-place : goal.invariant-loop-place
invariant-loop-place l = AreAsked l.net (network_symbols l.net) l.nodes l.place l.first
