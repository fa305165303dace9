use Rattle.std.proofs.Common.{rules}
use Rattle.certificate.proofs.leaf.is_positive.Goals as goal

pub returns-else-is_equality : goal.returns-else-is_equality
returns-else-is_equality c = search rules
