use Rattle.price_candidates.proofs.Closing.{settled}
use Rattle.price_candidates.proofs.candidates.closed_boxes_are_settled.Goals as goal

pub returns : goal.returns
returns c = settled
