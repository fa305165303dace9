use Rattle.std.proofs.Common.{take}
use Rattle.fair_share.specs.Shares.{share_rates}
use Rattle.fair_share.specs.Filling.{demands, AreTops}
use Rattle.fair_share.proofs.tops.top_all.Given as goal

abbrev pub invariant-loop-index : goal.invariant-loop-index
invariant-loop-index l = AreTops (demands l.caps (take l.index l.tenants)) (take l.index (share_rates l.shares)) l.tops
