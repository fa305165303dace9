use Rattle.std.proofs.Common.{length}
use Rattle.merlin_base.proofs.nodes.+skip_tree.Given as goal

abbrev pub decreases-skip_tree : goal.decreases-skip_tree
decreases-skip_tree l = length l.text.now
