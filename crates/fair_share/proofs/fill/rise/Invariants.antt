use Rattle.std.proofs.Common.{◌≤◌, ◌-◌}
use Rattle.fair_share.specs.Shares.{share_rates}
use Rattle.fair_share.specs.Filling.{demands, IsFilled}
use Rattle.fair_share.proofs.fill.rise.Given as goal

abbrev pub invariant-tries : goal.invariant-tries
invariant-tries l = IsFilled (demands l.caps l.tenants) (share_rates l.given.shares.items) l.rising l.given.used.items l.low × (l.fn.level ≤ l.low) × (l.low ≤ l.high) × (l.high ≤ l.fn.top)

abbrev pub decreases-tries : goal.decreases-tries
decreases-tries l = l.high - l.low
