use Rattle.program_walks.proofs.Marked.{no-symbols}
use Rattle.program_walks.proofs.marking.mark_walk.Goals as goal

pub returns-in_default : goal.returns-in_default
returns-in_default c = no-symbols c.args.variables.now c.args.symbols.now c.args.flow c.args.walk.now c.args.point.now c.in_default.len_below
