use Rattle.std.proofs.Common.{◌≡◌, take}
use Rattle.std.specs.List.{AllZip}
use Rattle.fair_share.specs.Shares.{share_rates}
use Rattle.fair_share.specs.Filling.{demands, IsNamed}
use Rattle.fair_share.proofs.dividing.divided.Given as goal

abbrev pub invariant-loop-index : goal.invariant-loop-index
invariant-loop-index l = (share_rates l.lines.items ≡ take l.index (share_rates l.shares)) × AllZip (IsNamed (demands l.caps l.tenants) (share_rates l.shares)) (take l.index l.tenants) l.lines.items
