use Rattle.price_candidates.proofs.Closing.{tried-neat}
use Rattle.price_candidates.proofs.candidates.tried_points_are_neat.Goals as goal

pub returns : goal.returns
returns c = tried-neat
