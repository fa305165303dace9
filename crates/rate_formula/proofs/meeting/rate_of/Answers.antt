use Rattle.std.proofs.Common.{rules}
use Rattle.rate_formula.proofs.meeting.rate_of.Goals as goal

pub returns-in-Constant : goal.returns-in-Constant
returns-in-Constant c = search rules
