use Rattle.configuration_model.proofs.Made.{compiled, delivered}
use Rattle.configuration_model.proofs.laws.made_is_compiled.Goals as goal

pub returns-clause-compiled : goal.returns-clause-compiled
returns-clause-compiled c = compiled

pub returns-clause-delivers : goal.returns-clause-delivers
returns-clause-delivers c = delivered
