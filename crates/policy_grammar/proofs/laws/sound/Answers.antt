use Rattle.policy_grammar.proofs.PolicyTexts.{sound}
use Rattle.policy_grammar.proofs.laws.sound.Goals as goal

pub returns : goal.returns
returns c = sound
