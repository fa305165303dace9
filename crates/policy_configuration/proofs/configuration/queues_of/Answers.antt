use Rattle.std.proofs.Common.{◌∙◌}
use Rattle.policy_configuration.proofs.configuration.queues_of.Goals as goal

pub returns : goal.returns
returns c = c.from_vec.ensures ∙ c.in_ok-queues.ensures
