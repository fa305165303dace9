use Rattle.topology.specs.Symbols.{network_symbols}
use Rattle.delegation.specs.JoinChecks.{AreJoinChecks}
use Rattle.delegation.proofs.judging.check_joins.Given as goal

abbrev pub invariant-loop-place : goal.invariant-loop-place
invariant-loop-place l = AreJoinChecks l.net (network_symbols l.net) l.nodes l.place l.joins.items
