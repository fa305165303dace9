use Rattle.std.proofs.Common.{◌≢◌}
use Rattle.fair_share.proofs.Climbing.{IsClimbing}
use Rattle.fair_share.proofs.climb.is_under.Given as goal

abbrev pub invariant-up : goal.invariant-up
invariant-up l = IsClimbing l.caps l.fn.start l.at l.left (λ c. c ≢ l.wanted)

abbrev pub decreases-up : goal.decreases-up
decreases-up l = l.left
