use Rattle.std.proofs.Common.{rules}
use Rattle.language_check.proofs.search.strays.Goals as goal

pub returns-then-accepts : goal.returns-then-accepts
returns-then-accepts c = search rules
