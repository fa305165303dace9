use Rattle.std.proofs.Common.{◌≡◌, map, take}
use Rattle.std.specs.List.{flat_map}
use Rattle.delegation.specs.NamedJoins.{rate_terms}
use Rattle.delegation.proofs.rating.write.Given as goal

abbrev pub invariant-loop-r : goal.invariant-loop-r
invariant-loop-r l = record {
  statements : l.statements ≡ map (λ r. r.statement) (take l.r-index l.r-items);
  terms : l.terms ≡ flat_map rate_terms (take l.r-index l.r-items);
}
