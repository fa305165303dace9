use Rattle.std.proofs.Common.{map}
use Rattle.fair_share.proofs.Numbering.{AreTenantsSoFar}
use Rattle.fair_share.proofs.reader.tenants_of.Given as goal

abbrev pub invariant-loop-place : goal.invariant-loop-place
invariant-loop-place l = AreTenantsSoFar (map (λ cap. cap.name) l.caps) l.entries l.place l.tenants.items
