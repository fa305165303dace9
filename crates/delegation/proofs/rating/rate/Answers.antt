use Rattle.std.proofs.Common.{◌≡◌, ◌<◌, ◌∙◌, List, None, length, subst, ap₂, get_or}
use Rattle.policy_expansion.specs.declared.policy.Statement.{Statement}
use Rattle.delegation.proofs.Steps.{rated-more}
use Rattle.delegation.proofs.rating.rate.Goals as goal

pub loop-place-preserved : goal.loop-place-preserved
loop-place-preserved c =
    let s = c.statement-item.result in
    rated-more c.args.policy.now c.args.rates.now c.loop-place.place s c.in_ok-with_rates.field-0 c.loop-place.statements c.push.new.self c.requires
    (subst (λ (ss : List Statement). c.loop-place.place < length ss) c.as_slice-statement-items.ensures c.loop-place-test.true)
    (subst (λ (ss : List Statement). s ≡ get_or ss c.loop-place.place s) c.as_slice-statement-items.ensures c.statement-item.is)
    (c.in_ok-with_rates.ensures ∙ ap₂ (λ most least. record { statement = s; cap = get_or most c.loop-place.place None; guarantee = get_or least c.loop-place.place 0 }) c.as_slice-most.ensures c.as_slice-least.ensures)
    c.loop-place.invariant c.in_ok-push.ensures.ok
