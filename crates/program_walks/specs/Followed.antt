-- Going on from vertex to vertex, each of which knows the place of the variable that leaves it.
use Rattle.std.specs.Prelude.{ℕ, ◌≡◌, ◌≤◌, List, [], ◌∷◌, length, Option, None, Some, slice_get, MatchOption}
use Rattle.cutoff_program.specs.declared.flow.Variable.{Variable}

-- the variables lead on from v, until a vertex knows none
abbrev pub GoesBy : List Variable → List ℕ → List (Option ℕ) → ℕ → List ℕ → Type 0
GoesBy variables numbers next v [] = slice_get next v ≡ Some None
GoesBy variables numbers next v (k ∷ ks) =
    (place : ℕ) × (slice_get next v ≡ Some (Some place)) × (slice_get numbers place ≡ Some k)
    × ((w : Variable) × (slice_get variables k ≡ Some w) × GoesBy variables numbers next w.edge.to ks)

-- the number of the variable by which one goes on, and the vertex to which it leads; none where there is no such variable
abbrev pub IsOnward : List Variable → List ℕ → List (Option ℕ) → ℕ → Option (ℕ × ℕ) → Type 0
IsOnward variables numbers next v found =
    MatchOption found
    ((place k : ℕ) (w : Variable) → slice_get next v ≡ Some (Some place) → slice_get numbers place ≡ Some k → ¬ (slice_get variables k ≡ Some w))
    (λ r. (place : ℕ) × (slice_get next v ≡ Some (Some place)) × (slice_get numbers place ≡ Some r.0)
    × ((w : Variable) × (slice_get variables r.0 ≡ Some w) × (r.1 ≡ w.edge.to)))

-- no more of them than there are variables
pub record IsWayBy (variables : List Variable) (numbers : List ℕ) (next : List (Option ℕ)) (ks : List ℕ) : Type 0 where
  pub goes : GoesBy variables numbers next 0 ks
  pub few : length ks ≤ length variables
