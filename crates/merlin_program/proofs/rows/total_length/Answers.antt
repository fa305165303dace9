use Rattle.std.proofs.Common.{None, arith}
use Rattle.cutoff_program.specs.declared.flow.Variable.{Variable}
use Rattle.merlin_program.proofs.Totals.{next-small}
use Rattle.merlin_program.proofs.rows.total_length.Goals as goal

abbrev no_variable : Variable
no_variable = record { flow = 0; rate = 0; edge = record { from = 0; to = 0; crosses = None } }

pub overflow_add-total : goal.overflow_add-total
overflow_add-total c =
    let s = next-small c.args.problem.now c.args.variables.now c.loop-variable.variable-index no_variable c.requires.few c.requires.costs c.loop-variable-test.true in
    let a = c.loop-variable.invariant in
    let b = c.length_added-total.ensures.value in
    omega arith
