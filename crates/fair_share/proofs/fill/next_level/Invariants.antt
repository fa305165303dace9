use Rattle.std.proofs.Common.{◌≡◌, length}
use Rattle.fair_share.specs.Shares.{share_rates}
use Rattle.fair_share.specs.Filling.{demands, IsBetweenLevels}
use Rattle.fair_share.proofs.fill.next_level.Given as goal

abbrev pub invariant-loop-index : goal.invariant-loop-index
invariant-loop-index l = (length l.shares ≡ length l.tenants) × (length l.rising ≡ length l.tenants) × (length l.used ≡ length l.caps)
    × IsBetweenLevels (demands l.caps l.tenants) (share_rates l.shares) l.rising l.used l.level l.index
