use Rattle.std.proofs.Common.{◌≢◌, ℕ, ◌<◌, map, Some, slice_get}
use Rattle.fair_share.proofs.names.cap_named.Given as goal

abbrev pub invariant-loop-index : goal.invariant-loop-index
invariant-loop-index l = (c : ℕ) → c < l.index → slice_get (map (λ cap. cap.name) l.caps) c ≢ Some l.name
