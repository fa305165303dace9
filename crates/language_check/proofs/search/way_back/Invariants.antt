use Rattle.std.proofs.Common.{◌≡◌, ◌<◌, ◌++◌, ℕ, List, length}
use Rattle.language_check.specs.Trails.{IsWayBack}
use Rattle.language_check.proofs.search.way_back.Given as goal

abbrev pub invariant-steps : goal.invariant-steps
invariant-steps l = (l.at < length l.found) × ((u : List ℕ) → IsWayBack l.found l.from l.turn u → (rest : List ℕ) × IsWayBack l.found l.from l.at rest × (u ≡ l.trail ++ rest))

abbrev pub decreases-steps : goal.decreases-steps
decreases-steps l = l.at
