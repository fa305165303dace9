use Rattle.policy_check.proofs.Matched.{accepted}
use Rattle.policy_check.proofs.laws.automata_accept_paths.Goals as goal

pub returns : goal.returns
returns c = accepted
