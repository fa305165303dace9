use Rattle.policy_check.proofs.Destinations.{HasNoneTo}
use Rattle.policy_check.proofs.pairs.next_destination.Given as goal

abbrev pub invariant-loop-dst : goal.invariant-loop-dst
invariant-loop-dst l = HasNoneTo l.net l.pred l.src l.from l.dst
