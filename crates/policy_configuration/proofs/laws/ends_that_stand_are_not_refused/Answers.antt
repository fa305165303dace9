use Rattle.policy_configuration.proofs.Stood.{at-no-fault}
use Rattle.policy_configuration.proofs.laws.ends_that_stand_are_not_refused.Goals as goal

pub returns : goal.returns
returns c net policy ends fault all few = at-no-fault net policy ends all few fault
