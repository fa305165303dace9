use Rattle.std.proofs.Common.{subst}
use Rattle.merlin_model.specs.Networks.{Pairwise}
use Rattle.rules_model.specs.Tables.{IsBelowKey}
use Rattle.openflow_rules.proofs.Keys.{keys-ascend}
use Rattle.openflow_rules.proofs.tags.TagSet.len.Goals as goal

pub returns-clause-ascend : goal.returns-clause-ascend
returns-clause-ascend c = subst (Pairwise IsBelowKey) c.self.view_is (keys-ascend c.self.inside.keys.keys c.len.ensures.ordered)
