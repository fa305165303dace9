use Rattle.std.proofs.Common.{◌∙◌, sym, subst, List}
use Rattle.merlin_model.specs.declared.policy.Path.{Path}
use Rattle.path_regex.specs.declared.forms.FormStep.{FormStep}
use Rattle.path_regex.specs.Shared.{IsKnownStep}
use Rattle.path_regex.proofs.Steps.{step-noted}
use Rattle.path_regex.proofs.forms.Forms.note_step.Goals as goal

pub invariant_of-self-2 : goal.invariant_of-self-2
invariant_of-self-2 c =
    let step : FormStep = record { all = c.args.all; loc = c.args.symbol.loc; fun = c.args.symbol.fun } in
    step-noted c.self.inside.nodes.keys c.self.inside.orders.entries c.self.inside.steps.entries c.insert.new.self.entries c.insert.result step c.args.rest c.self.invariant
    (subst (λ (forms : List Path). IsKnownStep forms (step, c.args.rest)) (sym (c.self.view_is ∙ c.forget_steps.ensures)) (c.requires.all, c.requires.rest))
    c.insert.ensures.entries c.insert.ensures.err
