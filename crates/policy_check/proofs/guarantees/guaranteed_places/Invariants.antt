use Rattle.std.proofs.Common.{◌≡◌, ◌++◌, drop}
use Rattle.policy_check.specs.Ends.{places_above}
use Rattle.policy_check.proofs.guarantees.guaranteed_places.Given as goal

abbrev pub invariant-loop-place : goal.invariant-loop-place
invariant-loop-place l = l.places.items ++ places_above l.place (drop l.place l.least) ≡ places_above 0 l.least
