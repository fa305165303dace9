use Rattle.policy_configuration.proofs.Sound.{checked-is}
use Rattle.policy_configuration.proofs.laws.checked_policies_are_sound.Goals as goal

pub returns : goal.returns
returns c net raw checked is sound numbers = checked-is net raw checked is sound numbers (c.symbols_are_all.ensures.each net) (c.no_function_stands_under_not.ensures net)
