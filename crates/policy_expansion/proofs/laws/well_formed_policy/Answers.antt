use Rattle.policy_expansion.proofs.Forming.{is_well_formed}
use Rattle.policy_expansion.proofs.laws.well_formed_policy.Goals as goal

pub returns : goal.returns
returns c = is_well_formed
