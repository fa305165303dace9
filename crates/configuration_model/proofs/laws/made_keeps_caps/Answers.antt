use Rattle.configuration_model.proofs.Shares.{keeps-caps, has-one-line}
use Rattle.configuration_model.proofs.laws.made_keeps_caps.Goals as goal

pub returns-clause-caps : goal.returns-clause-caps
returns-clause-caps c = keeps-caps

pub returns-clause-lines : goal.returns-clause-lines
returns-clause-lines c = has-one-line
