use Rattle.merlin_model.proofs.ActsAt.{acts, acts_only}
use Rattle.merlin_model.proofs.laws.first_highest_rule_acts.Goals as goal

pub returns-clause-acts : goal.returns-clause-acts
returns-clause-acts c = acts

pub returns-clause-only : goal.returns-clause-only
returns-clause-only c = acts_only
