use Rattle.fair_share.specs.Shares.{share_rates}
use Rattle.fair_share.proofs.Pouring.{AreDirectSoFar}
use Rattle.fair_share.proofs.sums.sum_up.Given as goal

abbrev pub invariant-loop-index : goal.invariant-loop-index
invariant-loop-index l = AreDirectSoFar l.caps l.tenants (share_rates l.shares) l.index l.sums 18446744073709551615
