use Rattle.std.proofs.Common.{map}
use Rattle.serde_json.specs.View.{view}
use Rattle.delegation_text.specs.Alongside.{IsWrittenNode}
use Rattle.delegation_text.proofs.Growing.{AreBeside}
use Rattle.delegation_text.proofs.written.nodes_of.Given as goal

abbrev pub invariant-loop-place : goal.invariant-loop-place
invariant-loop-place l = AreBeside IsWrittenNode (map view l.items) l.place l.nodes.items
