use Rattle.policy_check.proofs.Destinations.{HasNonePairTo}
use Rattle.policy_check.proofs.pairs.next_pair.Given as goal

abbrev pub invariant-loop-src : goal.invariant-loop-src
invariant-loop-src l = HasNonePairTo l.net l.pred l.from l.src
