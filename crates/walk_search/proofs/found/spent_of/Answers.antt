use Rattle.walk_search.proofs.Spent.{stopped-has-trails, stopped-neat, spent-found}
use Rattle.walk_search.proofs.found.spent_of.Goals as goal

pub bound_of-requires : goal.bound_of-requires
bound_of-requires c = stopped-has-trails c.args.program.now.problem c.requires.0 c.args.tree c.args.best c.args.program.now.is c.requires.1

pub best_of-requires : goal.best_of-requires
best_of-requires c = stopped-neat c.args.program.now.problem c.requires.0 c.args.tree c.args.best c.requires.1

pub returns : goal.returns
returns c = λ budget stopped net policy automata ends objective laid.
    spent-found net policy automata ends objective c.args.program.now.problem c.args.program.now.symbols c.args.program.now.is laid budget c.args.tree c.args.best c.in_ok-best.best c.in_ok-bound.bound stopped c.in_ok-best.ensures c.in_ok-bound.ensures
