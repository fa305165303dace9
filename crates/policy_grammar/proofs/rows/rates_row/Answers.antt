use Rattle.std.proofs.Common.{refl}
use Rattle.policy_grammar.proofs.PolicyTexts.{sound}
use Rattle.policy_grammar.proofs.rows.rates_row.Goals as goal

pub returns : goal.returns
returns c = sound _ _ refl
