use Rattle.price_candidates.proofs.Spreading.{path-small}
use Rattle.price_candidates.proofs.candidates.path_sums_are_small.Goals as goal

pub returns : goal.returns
returns c = path-small
