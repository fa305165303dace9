use Rattle.std.proofs.Common.{take}
use Rattle.std.specs.List.{AllByRecursion}
use Rattle.std.specs.Option.{option_copied}
use Rattle.merlin_model.specs.Programs.{left_side, Compares}
use Rattle.integer_program.proofs.solution.meets_rows.Given as goal

abbrev pub invariant-loop-row : goal.invariant-loop-row
invariant-loop-row g l =
    AllByRecursion (λ row. Compares row.is_equality (left_side row.entries l.point) row.right) (take l.row (g.P.Program.instance l.program (option_copied l.cutoff)).rows)
