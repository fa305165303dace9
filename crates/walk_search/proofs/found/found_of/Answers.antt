use Rattle.std.proofs.Common.{subst}
use Rattle.walk_search.specs.Searched.{IsOutcomeOf}
use Rattle.walk_search.proofs.Assigned.{none-found}
use Rattle.walk_search.proofs.found.found_of.Goals as goal

pub returns-in-Infeasible : goal.returns-in-Infeasible
returns-in-Infeasible c = λ budget outcome net policy automata ends objective laid.
    none-found net policy automata ends objective c.args.program.now.problem c.args.program.now.symbols c.args.program.now.is laid budget c.in-Infeasible.tree
    (subst (IsOutcomeOf c.args.program.now.problem budget) c.in-Infeasible.is outcome)
