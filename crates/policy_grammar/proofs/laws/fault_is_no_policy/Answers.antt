use Rattle.policy_grammar.proofs.Faults.{fault-no_policy}
use Rattle.policy_grammar.proofs.laws.fault_is_no_policy.Goals as goal

pub returns : goal.returns
returns c = fault-no_policy
