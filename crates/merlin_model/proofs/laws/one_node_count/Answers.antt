use Rattle.std.proofs.Common.{[]}
use Rattle.merlin_model.proofs.NodeCounts.{same_count}
use Rattle.merlin_model.proofs.laws.one_node_count.Goals as goal

pub returns : goal.returns
returns c = λ tree box. same_count tree box []
