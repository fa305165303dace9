use Rattle.policy_check.proofs.Small.{small-caps, small-guarantees}
use Rattle.policy_check.proofs.laws.localised_rates_are_small.Goals as goal

pub returns-clause-caps : goal.returns-clause-caps
returns-clause-caps c = small-caps

pub returns-clause-guarantees : goal.returns-clause-guarantees
returns-clause-guarantees c = small-guarantees
