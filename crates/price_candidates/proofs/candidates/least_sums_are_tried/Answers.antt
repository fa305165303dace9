use Rattle.price_candidates.proofs.Spreading.{least-reached, least-unreached}
use Rattle.price_candidates.proofs.candidates.least_sums_are_tried.Goals as goal

pub returns-clause-reached : goal.returns-clause-reached
returns-clause-reached c = least-reached

pub returns-clause-unreached : goal.returns-clause-unreached
returns-clause-unreached c = least-unreached
