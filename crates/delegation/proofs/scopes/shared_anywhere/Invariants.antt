use Rattle.std.proofs.Common.{◌<◌}
use Rattle.delegation.specs.Asking.{IsSoBefore}
use Rattle.delegation.specs.ScopesUnder.{IsLeastSharing}
use Rattle.delegation.specs.TreeRules.{HasFewScopeClasses}
use Rattle.delegation.proofs.scopes.shared_anywhere.Given as goal

abbrev pub invariant-loop-place : goal.invariant-loop-place
invariant-loop-place l = record {
  few : IsSoBefore l.nodes (HasFewScopeClasses l.nodes) l.place;
  found : IsLeastSharing l.nodes (λ parent. parent < l.place) l.least;
}
