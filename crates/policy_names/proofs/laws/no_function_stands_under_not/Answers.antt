use Rattle.policy_names.proofs.Functionless.{none-under-not}
use Rattle.policy_names.proofs.laws.no_function_stands_under_not.Goals as goal

pub returns : goal.returns
returns c = none-under-not
