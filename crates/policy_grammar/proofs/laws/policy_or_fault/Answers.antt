use Rattle.policy_grammar.proofs.Faults.{policy_or_fault}
use Rattle.policy_grammar.proofs.laws.policy_or_fault.Goals as goal

pub returns : goal.returns
returns c = policy_or_fault
