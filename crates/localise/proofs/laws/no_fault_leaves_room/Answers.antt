use Rattle.localise.proofs.Keeping.{room}
use Rattle.localise.proofs.laws.no_fault_leaves_room.Goals as goal

pub returns : goal.returns
returns c = room
