use Rattle.std.proofs.Common.{◌≤◌, ℕ, sym, subst}
use Rattle.merlin_model.specs.declared.limits.TheConstants.{MAX_RATE}
use Rattle.negotiator.proofs.sums.guarantee_of.Goals as goal

pub returns-clause-small : goal.returns-clause-small
returns-clause-small c = subst (λ (n : ℕ). n ≤ MAX_RATE) (sym c.guarantee_at.ensures) (c.localised_rates_are_small.ensures.guarantees c.args.policy.now.policy c.args.statement c.statements-sound.ensures.sound)
