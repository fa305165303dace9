use Rattle.merlin_model.proofs.Ascending.{share-same}
use Rattle.merlin_model.proofs.laws.one_share.Goals as goal

pub returns : goal.returns
returns c = share-same
