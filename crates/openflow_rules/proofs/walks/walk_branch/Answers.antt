use Rattle.std.proofs.Common.{refl}
use Rattle.openflow_rules.proofs.WalkSteps.{inner-among, branch-of-walk}
use Rattle.product_graph.specs.Products.{automaton_of}
use Rattle.openflow_rules.proofs.walks.walk_branch.Goals as goal

pub steps_along-requires-clause-symbols : goal.steps_along-requires-clause-symbols
steps_along-requires-clause-symbols c = inner-among c.args.symbols.now c.args.walk.now c.before_last.result.now c.before_last.ensures c.requires.symbols

pub returns : goal.returns
returns c = branch-of-walk (automaton_of c.args.symbols.now c.args.automaton.now) c.args.walk.now c.before_last.result.now c.args.dest _ c.before_last.ensures c.in_ok-steps.ensures refl
