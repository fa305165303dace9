use Rattle.policy_expansion.proofs.Differing.{is_expanded}
use Rattle.policy_expansion.proofs.laws.expanded_policy.Goals as goal

pub returns : goal.returns
returns c = is_expanded
