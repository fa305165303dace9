use Rattle.merlin_model.proofs.Fitting.{fits-parts, fits-from}
use Rattle.merlin_model.proofs.laws.fitting_parts.Goals as goal

pub returns : goal.returns
returns c = λ f r. (fits-parts f r, fits-from f r)
