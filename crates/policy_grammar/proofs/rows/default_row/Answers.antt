use Rattle.std.proofs.Common.{refl}
use Rattle.policy_grammar.proofs.PolicyTexts.{sound}
use Rattle.policy_grammar.proofs.Faults.{fault}
use Rattle.policy_grammar.proofs.rows.default_row.Goals as goal

pub returns-clause-value : goal.returns-clause-value
returns-clause-value c = sound _ _ refl

pub returns-clause-unclosed : goal.returns-clause-unclosed
returns-clause-unclosed c = (fault _ 0 refl).1

pub returns-clause-nothing : goal.returns-clause-nothing
returns-clause-nothing c = (fault _ 0 refl).1
