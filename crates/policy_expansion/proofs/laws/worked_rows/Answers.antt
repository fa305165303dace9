use Rattle.std.proofs.Common.{refl}
use Rattle.std.specs.Fmt.{digits}
use Rattle.policy_expansion.proofs.laws.worked_rows.Goals as goal

pub returns-clause-two_pairs : goal.returns-clause-two_pairs
unfolding digits
returns-clause-two_pairs c = refl
