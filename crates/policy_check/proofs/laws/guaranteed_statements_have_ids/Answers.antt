use Rattle.policy_check.proofs.Matched.{has-id}
use Rattle.policy_check.proofs.laws.guaranteed_statements_have_ids.Goals as goal

pub returns : goal.returns
returns c = has-id
