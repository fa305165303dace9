use Rattle.policy_check.proofs.Matched.{belongs}
use Rattle.policy_check.proofs.laws.one_statement_holds.Goals as goal

pub returns : goal.returns
returns c = λ policy p i s sound packet at. belongs policy p i s sound.disjoint packet at
