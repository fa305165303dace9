use Rattle.std.proofs.Common.{rules}
use Rattle.predicate_logic.proofs.first_bits.Goals as goal

pub returns : goal.returns
returns c = search rules
