use Rattle.fair_share.specs.Filling.{demands}
use Rattle.fair_share.proofs.Judging.{AreFine}
use Rattle.fair_share.proofs.judge.first_unsound.Given as goal

abbrev pub invariant-loop-index : goal.invariant-loop-index
invariant-loop-index l = AreFine (demands l.caps l.tenants) l.shares l.index
