use Rattle.price_candidates.proofs.Easing.{easy-decided, undecided-not-easy}
use Rattle.price_candidates.proofs.candidates.easy_boxes_are_decided.Goals as goal

pub returns-clause-decided : goal.returns-clause-decided
returns-clause-decided c = easy-decided

pub returns-clause-undecided : goal.returns-clause-undecided
returns-clause-undecided c = undecided-not-easy
