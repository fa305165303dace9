use Rattle.fair_share.specs.Shares.{share_rates}
use Rattle.fair_share.proofs.Filling.{AreAtLevel}
use Rattle.fair_share.proofs.fill.shares_at.Given as goal

abbrev pub invariant-loop-index : goal.invariant-loop-index
invariant-loop-index l = AreAtLevel l.tenants (share_rates l.shares) l.rising l.level l.index (share_rates l.next.items)
