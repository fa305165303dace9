use Rattle.rate_formula.proofs.Traffic.{by_traffic, keeps, kept}
use Rattle.rate_formula.proofs.laws.meets_by_traffic.Goals as goal

pub returns-clause-rate : goal.returns-clause-rate
returns-clause-rate c = by_traffic

pub returns-clause-formula : goal.returns-clause-formula
returns-clause-formula c = λ policy traffic. (keeps policy traffic, kept policy traffic)
