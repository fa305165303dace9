use Rattle.std.proofs.Common.{◌≡◌, map, take}
use Rattle.delegation.specs.NamedJoins.{rated_statement}
use Rattle.delegation.proofs.rating.rate.Given as goal

abbrev pub invariant-loop-place : goal.invariant-loop-place
invariant-loop-place l = l.statements ≡ map (rated_statement l.policy.formula.terms) (take l.place l.policy.statements)
