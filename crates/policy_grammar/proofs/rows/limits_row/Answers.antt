use Rattle.std.proofs.Common.{refl}
use Rattle.policy_grammar.proofs.Faults.{fault}
use Rattle.policy_grammar.proofs.rows.limits_row.Goals as goal

pub returns-clause-proto : goal.returns-clause-proto
returns-clause-proto c = (fault _ 5 refl).1

pub returns-clause-brackets : goal.returns-clause-brackets
returns-clause-brackets c = (fault _ 1 refl).1
