use Rattle.policy_configuration.proofs.Kept.{unbroken}
use Rattle.policy_configuration.proofs.laws.kept_rules_are_not_broken.Goals as goal

pub returns : goal.returns
returns c net symbols raw fault kept = unbroken net symbols raw kept fault
