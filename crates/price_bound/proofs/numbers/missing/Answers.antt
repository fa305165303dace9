use Rattle.std.proofs.Common.{ap, sym}
use Rattle.price_candidates.specs.Tried.{missing}
use Rattle.price_bound.proofs.numbers.missing.Goals as goal

pub returns-in-None : goal.returns-in-None
returns-in-None c = sym (ap missing c.in-None.is)
