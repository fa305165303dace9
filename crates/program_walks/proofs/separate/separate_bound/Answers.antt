use Rattle.program_walks.proofs.Adding.{nothing-small}
use Rattle.program_walks.proofs.separate.separate_bound.Goals as goal

pub value_by-requires-clause-small : goal.value_by-requires-clause-small
value_by-requires-clause-small c = nothing-small c.args.problem.now
