use Rattle.program_walks.proofs.Below.{not-below, not-none}
use Rattle.program_walks.proofs.laws.no_value_is_below_the_bound.Goals as goal

pub returns-clause-bound : goal.returns-clause-bound
returns-clause-bound c = λ net policy automata ends objective problem bound walks ok of is h assignment feasible. not-below net policy automata ok problem ends objective walks of is assignment feasible bound h

pub returns-clause-none : goal.returns-clause-none
returns-clause-none c = λ net policy automata ends objective problem walks ok of is h assignment feasible. not-none net policy automata ok problem ends objective walks of is assignment feasible h
