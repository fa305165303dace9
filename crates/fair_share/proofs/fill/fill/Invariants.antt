use Rattle.std.proofs.Common.{◌≤◌, ◌-◌}
use Rattle.fair_share.specs.Shares.{share_rates}
use Rattle.fair_share.specs.Filling.{demands, IsFilled}
use Rattle.fair_share.proofs.fill.fill.Given as goal

abbrev pub invariant-levels : goal.invariant-levels
invariant-levels l = IsFilled (demands l.caps l.tenants) (share_rates l.given.shares.items) l.rising.items l.given.used.items l.level × (l.level ≤ l.top)

abbrev pub decreases-levels : goal.decreases-levels
decreases-levels l = l.top - l.level
