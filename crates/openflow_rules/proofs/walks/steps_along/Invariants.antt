use Rattle.std.proofs.Common.{◌<◌, length}
use Rattle.product_graph.specs.Products.{automaton_of}
use Rattle.openflow_rules.proofs.WalkSteps.{AreStepsTo}
use Rattle.openflow_rules.proofs.walks.steps_along.Given as goal

abbrev pub invariant-loop-place : goal.invariant-loop-place
invariant-loop-place l = AreStepsTo (automaton_of l.symbols l.automaton) l.inner l.place l.state l.steps × (l.state < length l.automaton.steps)
