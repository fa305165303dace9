use Rattle.policy_check.proofs.Matched.{one-list}
use Rattle.policy_check.proofs.laws.one_list_of_ends.Goals as goal

pub returns : goal.returns
returns c = one-list
