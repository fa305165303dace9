use Rattle.std.proofs.Common.{◌≡◌, ◌∙◌, ◌+◌, ◌<◌, ◌∷◌, suc, List, drop, length, None, Some, slice_get, ap, subst, arith}
use Rattle.std.proofs.lemmas.Option.{slice_get-get_or}
use Rattle.cutoff_program.specs.declared.flow.Variable.{Variable}
use Rattle.cutoff_program.specs.Flows.{variables_of}
use Rattle.cutoff_program.specs.Easy.{fixed_from}
use Rattle.merlin_program.specs.Kept.{variable_at, no_variable}
use Rattle.price_bound.proofs.Permitting.{count-is}
use Rattle.price_bound.proofs.Steps.{drop-next, drop-end}
use Rattle.price_bound.proofs.floors.fixed_on.Goals as goal

pub loop-number-preserved : goal.loop-number-preserved
loop-number-preserved c =
    let problem = c.args.program.now.problem in
    let box = c.args.fixed.now in
    let k = c.loop-number.number in
    let within : k < length (variables_of problem) = subst (λ n. k < n) (c.variables-number-end.ensures ∙ count-is problem None) c.loop-number-test.true in
    let stands : slice_get (variables_of problem) k ≡ Some (variable_at problem k) = slice_get-get_or (variables_of problem) k no_variable within in
    let next : drop k (variables_of problem) ≡ variable_at problem k ∷ drop (k + 1) (variables_of problem) = drop-next (variables_of problem) k (variable_at problem k) stands ∙ ap (λ m. variable_at problem k ∷ drop m (variables_of problem)) (let e : suc k ≡ k + 1 = omega arith in e) in
    record {
      value = λ cutoff.
          let i = c.loop-number.invariant.value cutoff in
          let s = ap (λ (vs : List Variable). fixed_from problem cutoff box c.args.flow c.args.link k vs) next in
          let v = c.fixed_rate-load.ensures.value in
          omega arith;
      small = let i = c.loop-number.invariant.small in let s = c.fixed_rate-load.ensures.small in omega arith;
    }

pub returns : goal.returns
returns c cutoff =
    let problem = c.args.program.now.problem in
    let i = c.loop-number.invariant.value cutoff in
    let n = c.variables-number-end.ensures ∙ count-is problem None in
    let t = c.loop-number-test.false in
    let e = ap (λ (vs : List Variable). fixed_from problem cutoff c.args.fixed.now c.args.flow c.args.link c.loop-number.number vs) (drop-end (variables_of problem) c.loop-number.number (omega arith)) in
    omega arith
