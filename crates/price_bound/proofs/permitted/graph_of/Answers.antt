use Rattle.std.proofs.Common.{◌≡◌, ◌∙◌, ◌+◌, ◌++◌, ◌∷◌, [], ◌<◌, ap, sym, subst, length, true, false, None, Some, slice_get, arith}
use Rattle.std.proofs.lemmas.Option.{slice_get-get_or}
use Rattle.std.specs.Option.{option_copied}
use Rattle.cutoff_program.specs.Flows.{variables_of}
use Rattle.merlin_program.specs.Kept.{variable_at, no_variable}
use Rattle.price_bound.specs.Asked.{measured}
use Rattle.price_bound.proofs.Permitting.{AreStepsBelow, one-taken, one-left, all-gathered, count-is, gathered-within}
use Rattle.price_bound.proofs.permitted.graph_of.Goals as goal
use Rattle.price_bound.proofs.permitted.graph_of.Goals.{then-is_permitted+in_ok-push, else-is_permitted}

pub loop-variable-preserved : goal.loop-variable-preserved
loop-variable-preserved c =
    let problem = c.args.program.now.problem in
    let cutoff = option_copied c.args.cutoff in
    let box = c.args.fixed.now in
    let f = measured problem c.args.measure in
    let k = c.loop-variable.variable in
    let within : k < length (variables_of problem) = subst (λ n. k < n) (c.variables-variable-end.ensures ∙ count-is problem None) c.loop-variable-test.true in
    let stands : slice_get (variables_of problem) k ≡ Some (variable_at problem k) = slice_get-get_or (variables_of problem) k no_variable within in
    elim c.if-is_permitted.branch [
      | then-is_permitted+in_ok-push w ↦
          let both = c.is_permitted.ensures.0 w.if-is_permitted.true in
          subst (AreStepsBelow problem cutoff box c.args.flow f (k + 1)) (sym (w.steps-is ∙ w.in_ok-push.ensures.ok ∙ ap (λ s. c.loop-variable.steps ++ s ∷ []) w.step.ensures))
          (one-taken problem cutoff box c.args.flow f k (variable_at problem k) c.loop-variable.steps c.loop-variable.invariant stands both.0 both.1)
      | else-is_permitted w ↦
          subst (AreStepsBelow problem cutoff box c.args.flow f (k + 1)) (sym w.steps-is)
          (one-left problem cutoff box c.args.flow f k (variable_at problem k) c.loop-variable.steps c.loop-variable.invariant stands (λ both. absurd (let false-true : false ≡ true → ⊥ = λ x. cc in false-true (sym w.if-is_permitted.false ∙ c.is_permitted.ensures.1 both))))
    ]

pub invariant_of-result : goal.invariant_of-result
invariant_of-result c = record {
  within = gathered-within c.args.program.now.problem (option_copied c.args.cutoff) c.args.fixed.now c.args.flow (measured c.args.program.now.problem c.args.measure) c.vertices_of.result c.loop-variable.steps c.args.program.now.is c.requires.in_range c.vertices_of.ensures c.loop-variable.invariant.each;
}

pub returns : goal.returns
returns c stated stands = record {
  size = c.vertices_of.ensures stated stands;
  are =
      let e = c.variables-variable-end.ensures ∙ count-is c.args.program.now.problem None in
      let t = c.loop-variable-test.false in
      let u = c.loop-variable.auto.variable-end in
      all-gathered c.args.program.now.problem (option_copied c.args.cutoff) c.args.fixed.now c.args.flow (measured c.args.program.now.problem c.args.measure) c.loop-variable.variable c.loop-variable.steps (omega arith) (omega arith) c.loop-variable.invariant;
}
