use Rattle.localise.proofs.Keeping.{min_at, max_at}
use Rattle.localise.proofs.laws.rates_of_statements.Goals as goal

pub returns-clause-min : goal.returns-clause-min
returns-clause-min c = min_at

pub returns-clause-max : goal.returns-clause-max
returns-clause-max c = max_at
