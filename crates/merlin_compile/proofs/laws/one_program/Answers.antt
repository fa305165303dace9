use Rattle.merlin_compile.proofs.OneProgram.{one-problem, program-stands}
use Rattle.merlin_compile.proofs.laws.one_program.Goals as goal

pub returns-clause-problem : goal.returns-clause-problem
returns-clause-problem c = λ net raw checked other ends objective problem more symbols spelled pairs was one two.
    one-problem (record { symbols = c.symbols_are_all.ensures.each; one = c.one_numbering.ensures }) net raw checked other pairs.was was ends objective problem more symbols spelled pairs.ends_are.are one two

pub returns-clause-limits : goal.returns-clause-limits
returns-clause-limits c = λ net raw checked other ends fault pairs was has_program h.
    program-stands (record { symbols = c.symbols_are_all.ensures.each; one = c.one_numbering.ensures }) net raw checked other pairs.was was ends fault pairs.ends_are.are has_program h
