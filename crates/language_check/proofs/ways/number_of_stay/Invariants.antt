use Rattle.std.proofs.Common.{take, Contains}
use Rattle.merlin_model.specs.Words.{at}
use Rattle.language_check.proofs.ways.number_of_stay.Given as goal

abbrev pub invariant-loop-number : goal.invariant-loop-number
invariant-loop-number l = ¬ Contains (take l.number l.symbols) (at l.loc)
