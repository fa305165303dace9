use Rattle.price_candidates.proofs.Closing.{closed-decided}
use Rattle.price_candidates.proofs.candidates.closed_boxes_are_decided.Goals as goal

pub returns : goal.returns
returns c = closed-decided
