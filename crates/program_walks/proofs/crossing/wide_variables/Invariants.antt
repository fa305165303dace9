use Rattle.std.proofs.Common.{◌≡◌, map, take}
use Rattle.program_walks.specs.Widths.{is_so_wide}
use Rattle.program_walks.proofs.crossing.wide_variables.Given as goal

abbrev pub invariant-loop-variable : goal.invariant-loop-variable
invariant-loop-variable l = l.point ≡ map (is_so_wide l.problem l.width) (take l.variable-index l.variables)
