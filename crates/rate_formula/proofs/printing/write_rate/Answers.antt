use Rattle.std.proofs.Common.{rules}
use Rattle.rate_formula.proofs.printing.write_rate.Goals as goal

pub returns : goal.returns
returns c = search rules
