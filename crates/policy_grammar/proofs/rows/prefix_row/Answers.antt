use Rattle.std.proofs.Common.{refl}
use Rattle.policy_grammar.proofs.PolicyTexts.{sound}
use Rattle.policy_grammar.proofs.Faults.{fault}
use Rattle.policy_grammar.proofs.rows.prefix_row.Goals as goal

pub returns-clause-value : goal.returns-clause-value
returns-clause-value c = sound _ _ refl

pub returns-clause-set : goal.returns-clause-set
returns-clause-set c = (fault _ 4 refl).1
