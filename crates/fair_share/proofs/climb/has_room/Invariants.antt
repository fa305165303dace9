use Rattle.std.proofs.Common.{◌≡◌, ◌≤◌, ◌+◌, Some, slice_get, slice_index}
use Rattle.fair_share.specs.declared.cap.Cap.{Cap}
use Rattle.fair_share.proofs.Climbing.{IsClimbing}
use Rattle.fair_share.proofs.climb.has_room.Given as goal

abbrev pub invariant-up : goal.invariant-up
invariant-up l = IsClimbing l.caps l.fn.start l.at l.left (λ c. (cap : Cap) → slice_get l.caps c ≡ Some cap → slice_index l.used c + l.amount ≤ cap.rate)

abbrev pub decreases-up : goal.decreases-up
decreases-up l = l.left
