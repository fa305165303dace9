use Rattle.policy_expansion.proofs.PairPackets.{for_each_pair}
use Rattle.policy_expansion.proofs.laws.statement_of_a_pair.Goals as goal

pub returns : goal.returns
returns c = for_each_pair
