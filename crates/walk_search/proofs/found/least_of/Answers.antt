use Rattle.std.proofs.Common.{Bool, List, subst}
use Rattle.program_walks.specs.Solutions.{AreWalksOfPoint}
use Rattle.walk_search.proofs.Assigned.{least-found}
use Rattle.walk_search.proofs.found.least_of.Goals as goal

pub returns : goal.returns
returns c = λ budget least net policy automata ends objective laid.
    least-found net policy automata ends objective c.args.program.now.problem c.args.program.now.symbols c.args.program.now.is laid budget c.args.point c.args.value c.args.tree c.in_ok-walks.walks least
    (subst (λ (p : List Bool). AreWalksOfPoint c.args.program.now.problem c.args.program.now.symbols p c.in_ok-walks.walks) c.as_slice.ensures c.in_ok-walks.ensures)
