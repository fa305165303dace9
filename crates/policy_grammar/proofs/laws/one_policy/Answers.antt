use Rattle.policy_grammar.proofs.Faults.{one_policy}
use Rattle.policy_grammar.proofs.laws.one_policy.Goals as goal

pub returns : goal.returns
returns c = one_policy
