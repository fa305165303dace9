use Rattle.negotiator.proofs.Summing.{small-cap}
use Rattle.negotiator.proofs.sums.cap_of.Goals as goal

pub returns-clause-small : goal.returns-clause-small
returns-clause-small c = small-cap c.args.policy.now.policy c.args.statement c.statements-sound.ensures.sound c.localised_rates_are_small.ensures.caps c.cap_at.result c.cap_at.ensures
