use Rattle.std.proofs.Common.{◌≡◌, take}
use Rattle.cutoff_program.specs.Flows.{taken_from, cost_of_variable}
use Rattle.merlin_program.proofs.loads.length_of_all.Given as goal

abbrev pub invariant-loop-number : goal.invariant-loop-number
invariant-loop-number l = l.all ≡ taken_from 0 (cost_of_variable l.problem) (take l.number l.variables) l.point
