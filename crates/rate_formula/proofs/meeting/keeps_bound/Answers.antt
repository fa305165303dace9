use Rattle.std.proofs.Common.{rules}
use Rattle.rate_formula.proofs.meeting.keeps_bound.Goals as goal

pub returns-in-Max : goal.returns-in-Max
returns-in-Max c = search rules

pub returns-in-Min : goal.returns-in-Min
returns-in-Min c = search rules
