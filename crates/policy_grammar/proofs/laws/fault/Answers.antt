use Rattle.policy_grammar.proofs.Faults.{fault}
use Rattle.policy_grammar.proofs.laws.fault.Goals as goal

pub returns : goal.returns
returns c = fault
