use Rattle.price_candidates.proofs.Spreading.{spread-capped, spread-missing}
use Rattle.price_candidates.proofs.candidates.capped_sums_are_potentials.Goals as goal

pub returns-clause-reached : goal.returns-clause-reached
returns-clause-reached c = spread-capped

pub returns-clause-unreached : goal.returns-clause-unreached
returns-clause-unreached c = spread-missing
