use Rattle.std.proofs.Common.{◌∙◌}
use Rattle.program_walks.proofs.Valuing.{few-walks, small-loads, value-by-walks}
use Rattle.program_walks.proofs.values.value_of_walks.Goals as goal

pub value_by-requires-clause-walks : goal.value_by-requires-clause-walks
value_by-requires-clause-walks c = few-walks c.args.problem.now c.args.symbols.now c.args.walks.now c.requires.walks

pub value_by-requires-clause-small : goal.value_by-requires-clause-small
value_by-requires-clause-small c = small-loads c.args.problem.now c.args.symbols.now c.args.walks.now c.requires.is c.requires.walks

pub returns : goal.returns
returns c = λ net policy automata ends objective laid.
    c.value_by.ensures ∙ value-by-walks net policy automata ends objective c.args.problem.now c.args.symbols.now c.args.walks.now laid (few-walks c.args.problem.now c.args.symbols.now c.args.walks.now c.requires.walks)
