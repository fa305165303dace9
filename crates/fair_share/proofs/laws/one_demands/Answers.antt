use Rattle.fair_share.proofs.OneReading.{demands-one, demands-apart, demands-kept}
use Rattle.fair_share.proofs.laws.one_demands.Goals as goal

pub returns-clause-one : goal.returns-clause-one
returns-clause-one c = demands-one

pub returns-clause-apart : goal.returns-clause-apart
returns-clause-apart c = demands-apart

pub returns-clause-keeps : goal.returns-clause-keeps
returns-clause-keeps c = demands-kept
