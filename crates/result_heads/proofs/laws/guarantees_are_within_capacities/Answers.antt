use Rattle.result_heads.proofs.Queues.{guarantees-within}
use Rattle.result_heads.proofs.laws.guarantees_are_within_capacities.Goals as goal

pub returns : goal.returns
returns c = guarantees-within
