use Rattle.delegation_text.proofs.Doubled.{AreAdded}
use Rattle.delegation_text.proofs.names.names_of.Given as goal

abbrev pub invariant-loop-node : goal.invariant-loop-node
invariant-loop-node l = AreAdded l.nodes l.node-index l.names.keys
