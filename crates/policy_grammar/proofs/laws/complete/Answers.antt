use Rattle.policy_grammar.proofs.PolicyTexts.{complete}
use Rattle.policy_grammar.proofs.laws.complete.Goals as goal

pub returns : goal.returns
returns c = complete
