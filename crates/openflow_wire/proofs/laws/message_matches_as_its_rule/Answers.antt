use Rattle.openflow_wire.proofs.MatchesBack.{matches_back}
use Rattle.openflow_wire.proofs.laws.message_matches_as_its_rule.Goals as goal

pub returns : goal.returns
returns c = matches_back
