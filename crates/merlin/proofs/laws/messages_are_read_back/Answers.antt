use Rattle.merlin.proofs.Rewiring.{read_back}
use Rattle.merlin.proofs.laws.messages_are_read_back.Goals as goal

pub returns : goal.returns
returns c = read_back c.message_is_read_back.ensures
