use Rattle.std.proofs.Common.{◌+◌, None, ◌∙◌, ap, arith}
use Rattle.std.proofs.lemmas.List.{take_all}
use Rattle.cutoff_program.specs.declared.flow.Variable.{Variable}
use Rattle.cutoff_program.specs.Flows.{rate_over, taken_from}
use Rattle.cutoff_program.proofs.Variables.{over-most}
use Rattle.merlin_program.proofs.Taking.{taken-one, taken-none, taken-small, next-taken}
use Rattle.merlin_program.proofs.loads.load_of.Goals.{then-point-number, else-point-number}
use Rattle.merlin_program.proofs.loads.load_of.Goals as goal

abbrev no_variable : Variable
no_variable = record { flow = 0; rate = 0; edge = record { from = 0; to = 0; crosses = None } }

pub overflow_add-load : goal.overflow_add-load
overflow_add-load c =
    let s = next-taken (rate_over c.args.link) (λ v. v.rate) c.args.variables.now c.args.point.now c.loop-number.number no_variable (over-most c.args.link) c.requires.few c.requires.small c.loop-number-test.true in
    let a = c.loop-number.invariant in
    let b = c.rate_on-load.ensures in
    omega arith

pub loop-number-preserved : goal.loop-number-preserved
loop-number-preserved c = elim c.if-point-number.branch [
  | then-point-number w ↦ taken-one (rate_over c.args.link) c.args.variables.now c.args.point.now c.loop-number.number no_variable c.loop-number.load _ c.loop-number-test.true w.if-point-number.true c.loop-number.invariant (w.load-is ∙ ap (λ n. c.loop-number.load + n) w.rate_on-load.ensures)
  | else-point-number w ↦ taken-none (rate_over c.args.link) c.args.variables.now c.args.point.now c.loop-number.number no_variable c.loop-number.load _ c.loop-number-test.true w.if-point-number.false c.loop-number.invariant w.load-is
]

pub returns-clause-small : goal.returns-clause-small
returns-clause-small c =
    let s = taken-small (rate_over c.args.link) (λ v. v.rate) c.args.variables.now c.args.point.now (over-most c.args.link) c.requires.few c.requires.small in
    let whole = ap (λ vs. taken_from 0 (rate_over c.args.link) vs c.args.point.now) (take_all c.loop-number.number c.args.variables.now c.loop-number-test.false) in
    let a = c.loop-number.invariant in
    omega arith
