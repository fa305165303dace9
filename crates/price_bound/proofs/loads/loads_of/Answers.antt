use Rattle.std.proofs.Common.{◌≡◌, ◌∙◌, ◌+◌, ◌≤◌, ◌<◌, ◌^◌, None, Some, length, slice_get, sym, subst}
use Rattle.std.proofs.lemmas.Option.{slice_get-get_or}
use Rattle.cutoff_program.specs.declared.flow.Variable.{Variable}
use Rattle.cutoff_program.specs.Flows.{variables_of}
use Rattle.cutoff_program.proofs.Variables.{rates-small}
use Rattle.merlin_program.specs.Kept.{variable_at, no_variable}
use Rattle.price_bound.proofs.Permitting.{count-is}
use Rattle.price_bound.proofs.Steps.{all-index}
use Rattle.price_bound.proofs.Loading.{AreLoadsTo, loads-added, loads-left}
use Rattle.price_bound.proofs.loads.loads_of.Goals as goal
use Rattle.price_bound.proofs.loads.loads_of.Goals.{then-is_loaded, else-is_loaded}

pub loop-variable-preserved : goal.loop-variable-preserved
loop-variable-preserved c =
    let problem = c.args.program.now.problem in
    let k = c.loop-variable.variable in
    let within : k < length (variables_of problem) = subst (λ n. k < n) (c.variables-variable-end.ensures ∙ count-is problem None) c.loop-variable-test.true in
    let stands : slice_get (variables_of problem) k ≡ Some (variable_at problem k) = slice_get-get_or (variables_of problem) k no_variable within in
    elim c.if-is_loaded.branch [
      | then-is_loaded w ↦
          subst (AreLoadsTo problem c.args.point.now c.args.fixed.now (k + 1)) (sym w.loads-is)
          (loads-added problem c.args.point.now c.args.fixed.now k (variable_at problem k) c.loop-variable.loads w.add_load.new.loads c.loop-variable.invariant stands (sym c.is_loaded.ensures ∙ w.if-is_loaded.true) (all-index (λ (v : Variable). v.rate ≤ 10 ^ 9) (variables_of problem) k no_variable (rates-small problem c.args.program.now.is) within) w.add_load.ensures.size w.add_load.ensures.each)
      | else-is_loaded w ↦
          subst (AreLoadsTo problem c.args.point.now c.args.fixed.now (k + 1)) (sym w.loads-is)
          (loads-left problem c.args.point.now c.args.fixed.now k (variable_at problem k) c.loop-variable.loads c.loop-variable.invariant stands (sym c.is_loaded.ensures ∙ w.if-is_loaded.false))
    ]
