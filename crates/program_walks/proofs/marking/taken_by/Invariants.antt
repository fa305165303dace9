use Rattle.std.proofs.Common.{take}
use Rattle.program_walks.specs.Marks.{TakeTrails}
use Rattle.program_walks.proofs.marking.taken_by.Given as goal

abbrev pub invariant-loop-flow : goal.invariant-loop-flow
invariant-loop-flow l = TakeTrails l.variables (take l.flow l.symbols) (take l.flow l.walks) l.point
