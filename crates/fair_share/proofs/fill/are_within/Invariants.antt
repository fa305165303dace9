use Rattle.std.proofs.Common.{◌≡◌, ℕ, ◌<◌, ◌≤◌, Some, slice_get, slice_index}
use Rattle.fair_share.specs.declared.cap.Cap.{Cap}
use Rattle.fair_share.proofs.fill.are_within.Given as goal

abbrev pub invariant-loop-index : goal.invariant-loop-index
invariant-loop-index l = (c : ℕ) (cap : Cap) → c < l.index → slice_get l.caps c ≡ Some cap → slice_index l.used c ≤ cap.rate
