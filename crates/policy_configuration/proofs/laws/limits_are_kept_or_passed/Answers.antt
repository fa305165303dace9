use Rattle.policy_configuration.proofs.Planned.{not-passed}
use Rattle.policy_configuration.proofs.laws.limits_are_kept_or_passed.Goals as goal

pub returns : goal.returns
returns c net checked ends fault all within = not-passed net checked ends all within fault
