use Rattle.merlin_model.proofs.Guaranteed.{has_walk}
use Rattle.merlin_model.proofs.laws.guarantees_have_walks.Goals as goal

pub returns : goal.returns
returns c = has_walk
