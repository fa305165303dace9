use Rattle.policy_configuration.proofs.OneLimit.{passes-as-well}
use Rattle.policy_configuration.proofs.one_limit.limits_of_one_policy.Goals as goal

pub returns : goal.returns
returns c = passes-as-well (record { symbols = c.symbols_are_all.ensures.each; one = c.one_numbering.ensures })
