-- Words by their numbers, from the last one to the first, and the search for the least one.
use Rattle.std.specs.Prelude.{ℕ, ◌≡◌, ◌<◌, ◌⊎◌, ⊤, Bool, true, false, List, [], ◌∷◌, ◌++◌, length, slice_get, Contains, Option, None, Some}
use Rattle.std.specs.List.{AllByRecursion, slice_index_or}
use Rattle.path_automaton.specs.Automata.{AutomatonTables, step, accepts}
use Rattle.language_check.specs.declared.search.Triple.{Triple}

-- What is searched: the number with which a word starts, the numbers that may follow a number inside, after which the end may stand,
-- the end's number, and the two automata.
pub record Grounds : Type 0 where
  pub start : ℕ
  pub followers : ℕ → List ℕ
  pub before_end : ℕ → Bool
  pub end : ℕ
  pub a : AutomatonTables
  pub b : AutomatonTables

-- a word from the start, without its end, from the last number to the first
abbrev pub IsTrail : Grounds → List ℕ → Type 0
IsTrail g [] = ⊥
IsTrail g (k ∷ []) = k ≡ g.start
IsTrail g (k ∷ j ∷ rest) = Contains (g.followers j) k × IsTrail g (j ∷ rest)

-- the state after a trail
abbrev pub state_at : AutomatonTables → List ℕ → ℕ
state_at t [] = 0
state_at t (k ∷ rest) = step t (state_at t rest) k

-- the last number of a trail and the states after it
abbrev pub triple_at : Grounds → List ℕ → Triple
triple_at g [] = record { symbol = 0; first = 0; second = 0 }
triple_at g (k ∷ rest) = record { symbol = k; first = state_at g.a (k ∷ rest); second = state_at g.b (k ∷ rest) }

-- the end may follow, the first automaton then accepts, and the second does not
abbrev pub Strays : Grounds → Triple → Type 0
Strays g t = (g.before_end t.symbol ≡ true) × (accepts g.a (step g.a t.first g.end) ≡ true) × (accepts g.b (step g.b t.second g.end) ≡ false)

-- the trail is shorter, or as long, and where the two words first differ it has the smaller number
abbrev pub IsLessTrail : List ℕ → List ℕ → Type 0
IsLessTrail [] [] = ⊥
IsLessTrail [] (y ∷ v) = ⊤
IsLessTrail (x ∷ u) [] = ⊥
IsLessTrail (x ∷ u) (y ∷ v) = IsLessTrail u v ⊎ ((u ≡ v) × (x < y))

abbrev pub IsNoMoreTrail : List ℕ → List ℕ → Type 0
IsNoMoreTrail u v = (u ≡ v) ⊎ IsLessTrail u v

-- the least trail that strays, if any does
abbrev pub IsLeastTrail : Grounds → Option (List ℕ) → Type 0
IsLeastTrail g None = (u : List ℕ) → IsTrail g u → ¬ Strays g (triple_at g u)
IsLeastTrail g (Some w) = IsTrail g w × Strays g (triple_at g w) × ((u : List ℕ) → IsTrail g u → Strays g (triple_at g u) → IsNoMoreTrail w u)

-- the trail that leads back from a place by the places from which each was found
abbrev pub IsWayBack : List Triple → List ℕ → ℕ → List ℕ → Type 0
IsWayBack found from i [] = ⊥
IsWayBack found from i (k ∷ []) = (i ≡ 0) × ((t : Triple) × (slice_get found i ≡ Some t) × (t.symbol ≡ k))
IsWayBack found from i (k ∷ j ∷ rest) =
    (0 < i) × ((t : Triple) × (slice_get found i ≡ Some t) × (t.symbol ≡ k)) × IsWayBack found from (slice_index_or from i 0) (j ∷ rest)

-- each place but the first was found from an earlier one
pub record AreFromEarlier (found : List Triple) (from : List ℕ) : Type 0 where
  pub long : length from ≡ length found
  pub earlier : (i : ℕ) → 0 < i → i < length from → slice_index_or from i 0 < i

-- numbers are those of symbols and of states
abbrev pub IsInside : Grounds → ℕ → Triple → Type 0
IsInside g n t = (t.symbol < n) × (t.first < length g.a.steps) × (t.second < length g.b.steps)

-- the trail was found from the place in front of the turn, or at the turn by one of these numbers
abbrev pub IsFoundFrom : List (List ℕ) → ℕ → List ℕ → List ℕ → Type 0
IsFoundFrom trails turn done [] = ⊥
IsFoundFrom trails turn done (k ∷ u) =
    (p : ℕ) × (slice_get trails p ≡ Some u) × ((p < turn) ⊎ ((p ≡ turn) × Contains done k))

-- These trails lead to the triples that were found, in order, from the start on.
pub record LeadToFound (g : Grounds) (n : ℕ) (found : List Triple) (from : List ℕ) (trails : List (List ℕ)) : Type 0 where
  pub long : length trails ≡ length found
  pub back : AreFromEarlier found from
  pub inside : AllByRecursion (IsInside g n) found
  pub begins : slice_get trails 0 ≡ Some (g.start ∷ [])
  pub each : (i : ℕ) (u : List ℕ) → slice_get trails i ≡ Some u → IsTrail g u × (slice_get found i ≡ Some (triple_at g u)) × IsWayBack found from i u
  pub ordered : (i j : ℕ) (u v : List ℕ) → i < j → slice_get trails i ≡ Some u → slice_get trails j ≡ Some v → IsLessTrail u v

-- What is known while the places in turn are followed, the one at the turn by these numbers.
pub record IsSearching (g : Grounds) (n : ℕ) (found : List Triple) (from : List ℕ) (turn : ℕ) (done : List ℕ) : Type 0 where
  pub trails : List (List ℕ)
  pub lead : LeadToFound g n found from trails
  pub recent : (i : ℕ) (u : List ℕ) → slice_get trails i ≡ Some u → (u ≡ g.start ∷ []) ⊎ IsFoundFrom trails turn done u
  pub closed : (i : ℕ) (h : ℕ) (u : List ℕ) (k : ℕ) → slice_get trails i ≡ Some (h ∷ u) → ((i < turn) × Contains (g.followers h) k) ⊎ ((i ≡ turn) × Contains done k) →
      (j : ℕ) × (v : List ℕ) × (slice_get trails j ≡ Some v) × (triple_at g v ≡ triple_at g (k ∷ h ∷ u)) × IsNoMoreTrail v (k ∷ h ∷ u)
  pub harmless : (i : ℕ) (u : List ℕ) → i < turn → slice_get trails i ≡ Some u → ¬ Strays g (triple_at g u)

-- the triple is among those that were found, or was put behind them
abbrev pub IsNoted : Triple → ℕ → List Triple → List Triple → List ℕ → List ℕ → Type 0
IsNoted t turn old new old_from new_from =
    ((j : ℕ) × (slice_get old j ≡ Some t) × (new ≡ old) × (new_from ≡ old_from)) ⊎ ((new ≡ old ++ t ∷ []) × (new_from ≡ old_from ++ turn ∷ []))
