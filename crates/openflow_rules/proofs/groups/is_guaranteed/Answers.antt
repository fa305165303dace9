use Rattle.std.proofs.Common.{ℕ, List, get_or, ◌∙◌, ap}
use Rattle.localise.specs.declared.localising.Rates.{Rates}
use Rattle.openflow_rules.proofs.Rated.{least-is, above-is}
use Rattle.openflow_rules.proofs.groups.is_guaranteed.Goals as goal

pub returns : goal.returns
returns c =
    let i : ℕ = c.args.statement in
    above-is c.args.checked.now.policy i c.rate_at.result
    (c.rate_at.ensures ∙ ap (λ (l : List ℕ). get_or l i 0) (c.as_slice.ensures ∙ ap (λ (r : Rates). r.min) c.rates.ensures) ∙ least-is c.args.checked.now.policy i)
