use Rattle.std.proofs.Common.{refl}
use Rattle.configuration_model.proofs.laws.worked_host_lines.Goals as goal

pub returns-clause-shut : goal.returns-clause-shut
returns-clause-shut c = refl

pub returns-clause-shared : goal.returns-clause-shared
returns-clause-shared c = refl
