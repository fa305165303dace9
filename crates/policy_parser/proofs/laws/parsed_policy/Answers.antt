use Rattle.policy_parser.proofs.Formed.{parsed_formed}
use Rattle.policy_parser.proofs.laws.parsed_policy.Goals as goal

pub returns : goal.returns
returns c = parsed_formed
