use Rattle.config_read.proofs.TreeTails.{no_tree, wrong_nodes, tree_read}
use Rattle.config_read.proofs.tail.skip_tree.Goals as goal

pub returns-in_default-clause-err : goal.returns-in_default-clause-err
returns-in_default-clause-err c = no_tree c.args.text.now c.in_default.ensures.none

pub returns-in-Ok-clause-ok : goal.returns-in-Ok-clause-ok
returns-in-Ok-clause-ok c = tree_read c.args.text.now c.in-Some.nodes.now c.in-Ok.end c.in-Some.ensures.some c.in-Ok.ensures.ok

pub returns-in-Err-clause-err : goal.returns-in-Err-clause-err
returns-in-Err-clause-err c = wrong_nodes c.args.text.now c.in-Some.nodes.now c.in-Err.at c.in-Some.ensures.some c.in-Err.ensures.err
