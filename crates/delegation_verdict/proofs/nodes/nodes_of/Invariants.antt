use Rattle.std.proofs.Common.{take}
use Rattle.std.specs.List.{AllZip, zip}
use Rattle.delegation_verdict.specs.Nodes.{policy_texts, IsNodeOf}
use Rattle.delegation_verdict.proofs.nodes.nodes_of.Given as goal

abbrev pub invariant-loop-place : goal.invariant-loop-place
invariant-loop-place l = AllZip IsNodeOf (take l.place (zip l.entries (policy_texts l.texts))) l.nodes.items
