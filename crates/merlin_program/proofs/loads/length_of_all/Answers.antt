use Rattle.std.proofs.Common.{◌+◌, None, ◌∙◌, ap, arith}
use Rattle.cutoff_program.specs.declared.flow.Variable.{Variable}
use Rattle.cutoff_program.specs.Flows.{cost_of_variable}
use Rattle.merlin_program.proofs.Taking.{taken-one, taken-none, next-taken}
use Rattle.merlin_program.proofs.loads.length_of_all.Goals.{then-point-number, else-point-number}
use Rattle.merlin_program.proofs.loads.length_of_all.Goals as goal

abbrev no_variable : Variable
no_variable = record { flow = 0; rate = 0; edge = record { from = 0; to = 0; crosses = None } }

pub overflow_add-all : goal.overflow_add-all
overflow_add-all c =
    let s = next-taken (cost_of_variable c.args.problem.now) (cost_of_variable c.args.problem.now) c.args.variables.now c.args.point.now c.loop-number.number no_variable (λ v. omega arith) c.requires.few c.requires.costs c.loop-number-test.true in
    let a = c.loop-number.invariant in
    let b = c.cost-all.ensures.value in
    omega arith

pub loop-number-preserved : goal.loop-number-preserved
loop-number-preserved c = elim c.if-point-number.branch [
  | then-point-number w ↦ taken-one (cost_of_variable c.args.problem.now) c.args.variables.now c.args.point.now c.loop-number.number no_variable c.loop-number.all _ c.loop-number-test.true w.if-point-number.true c.loop-number.invariant (w.all-is ∙ ap (λ n. c.loop-number.all + n) w.cost-all.ensures.value)
  | else-point-number w ↦ taken-none (cost_of_variable c.args.problem.now) c.args.variables.now c.args.point.now c.loop-number.number no_variable c.loop-number.all _ c.loop-number-test.true w.if-point-number.false c.loop-number.invariant w.all-is
]
