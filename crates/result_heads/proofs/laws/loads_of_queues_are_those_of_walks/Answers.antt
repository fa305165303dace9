use Rattle.result_heads.proofs.Queues.{loads-of-walks}
use Rattle.result_heads.proofs.laws.loads_of_queues_are_those_of_walks.Goals as goal

pub returns : goal.returns
returns c = loads-of-walks
