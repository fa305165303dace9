use Rattle.std.proofs.Common.{rules}
use Rattle.predicate_logic.proofs.residues.residue_of_test.Goals as goal

pub returns-then-value-from-2 : goal.returns-then-value-from-2
returns-then-value-from-2 c = search rules
