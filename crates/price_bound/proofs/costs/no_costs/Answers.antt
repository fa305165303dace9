use Rattle.std.proofs.Common.{◌∙◌, List, Bool, ℕ, None, false, replicate, sym, subst}
use Rattle.price_bound.specs.Numbers.{AreCosts}
use Rattle.price_bound.proofs.Permitting.{count-is}
use Rattle.price_bound.proofs.Costing.{none-costs}
use Rattle.price_bound.proofs.costs.no_costs.Goals as goal

pub returns : goal.returns
returns c cutoff box =
    let problem = c.args.program.now.problem in
    let is = none-costs problem cutoff box c.variables.result (c.variables.ensures ∙ count-is problem None) in
    subst (λ (p : List Bool). AreCosts problem cutoff box 0 (record { numbers = c.new.result; point = p })) (sym c.in_ok-no_choice.ensures)
    (subst (λ (l : List ℕ). AreCosts problem cutoff box 0 (record { numbers = l; point = replicate c.variables.result false })) (sym c.new.ensures) is)
