use Rattle.configuration_model.proofs.Regular.{regular-one, falls-on}
use Rattle.configuration_model.proofs.laws.cells_by_priority.Goals as goal

pub returns-clause-one : goal.returns-clause-one
returns-clause-one c = regular-one

pub returns-clause-falls : goal.returns-clause-falls
returns-clause-falls c = falls-on
