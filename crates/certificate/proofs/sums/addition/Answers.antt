use Rattle.std.proofs.Common.{rules}
use Rattle.certificate.proofs.sums.addition.Goals as goal

pub returns-else-may_be_one : goal.returns-else-may_be_one
returns-else-may_be_one c = search rules
