use Rattle.std.proofs.Common.{rules}
use Rattle.integer_program.proofs.solution.compares.Goals as goal

pub returns-else-is_equality : goal.returns-else-is_equality
returns-else-is_equality c = search rules
