use Rattle.configuration_model.proofs.Reserved.{meets-guarantees}
use Rattle.configuration_model.proofs.laws.made_meets_guarantees.Goals as goal

pub returns : goal.returns
returns c = meets-guarantees
