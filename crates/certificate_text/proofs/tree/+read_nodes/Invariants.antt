use Rattle.std.proofs.Common.{length}
use Rattle.certificate_text.proofs.tree.+read_nodes.Given as goal

abbrev pub decreases-read_nodes : goal.decreases-read_nodes
decreases-read_nodes l = length l.text.now
