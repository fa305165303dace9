use Rattle.price_candidates.proofs.Closing.{tried-marked}
use Rattle.price_candidates.proofs.candidates.tried_paths_have_points.Goals as goal

pub returns : goal.returns
returns c = tried-marked
