use Rattle.std.proofs.Common.{rules}
use Rattle.predicate_logic.proofs.passes_test.Goals as goal

pub returns-then-value-from : goal.returns-then-value-from
returns-then-value-from c = search rules

pub returns-else-value-from : goal.returns-else-value-from
returns-else-value-from c = search rules
