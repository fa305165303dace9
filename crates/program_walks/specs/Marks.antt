-- Which variables a walk takes.
use Rattle.std.specs.Prelude.{ℕ, ◌≡◌, ◌+◌, ◌⊎◌, Bool, true, false, List, [], ◌∷◌, length, replicate, drop, Option, None, Some, slice_get, slice_set, MatchOption}
use Rattle.std.specs.List.{slice_index_or}
use Rattle.merlin_model.specs.declared.policy.Symbol.{Symbol}
use Rattle.merlin_model.specs.Words.{at}
use Rattle.cutoff_program.specs.declared.flow.Variable.{Variable}
use Rattle.cutoff_program.specs.Trails.{edges_of}

-- the symbol of a vertex
abbrev pub symbol_in : List Symbol → ℕ → Symbol
symbol_in symbols vertex = slice_index_or symbols vertex (at 0)

-- the variable leads in its flow from a vertex to a symbol
abbrev pub LeadsToSymbol : List Symbol → ℕ → ℕ → Symbol → Variable → Type 0
LeadsToSymbol symbols n vertex x v = (v.flow ≡ n) × (v.edge.from ≡ vertex) × (symbol_in symbols v.edge.to ≡ x)

-- the number of such a variable, or none where there is none
abbrev pub IsNextBy : List Variable → List Symbol → ℕ → ℕ → Symbol → Option ℕ → Type 0
IsNextBy variables symbols n vertex x next =
    MatchOption next
    ((k : ℕ) (v : Variable) → slice_get variables k ≡ Some v → ¬ LeadsToSymbol symbols n vertex x v)
    (λ k. (v : Variable) × (slice_get variables k ≡ Some v) × LeadsToSymbol symbols n vertex x v)

-- Symbols lead from a vertex to another over these variables. A symbol that no variable leads to is a turn, which stays.
abbrev pub FollowsTrail : List Variable → List Symbol → ℕ → ℕ → List Symbol → List ℕ → ℕ → Type 0
FollowsTrail variables symbols n vertex [] trail to = (trail ≡ []) × (vertex ≡ to)
FollowsTrail variables symbols n vertex (x ∷ word) trail to =
    (IsNextBy variables symbols n vertex x None × FollowsTrail variables symbols n vertex word trail to)
    ⊎ ((k : ℕ) × ((rest : List ℕ) × ((v : Variable) × (trail ≡ k ∷ rest) × (slice_get variables k ≡ Some v) × LeadsToSymbol symbols n vertex x v × FollowsTrail variables symbols n v.edge.to word rest to)))

-- a point with some more places at 1
abbrev pub with_more : List Bool → List ℕ → List Bool
with_more point [] = point
with_more point (k ∷ ks) = with_more (slice_set point k true) ks

-- the variables that symbols take from the start of a flow are chosen too
pub record TakesTrail (variables : List Variable) (symbols : List Symbol) (n : ℕ) (word : List Symbol) (old new : List Bool) : Type 0 where
  pub trail : List ℕ
  pub to : ℕ
  pub follows : FollowsTrail variables symbols n 0 word trail to
  pub chosen : new ≡ with_more old trail

-- the trails that walks take, the first of which is that of flow n
abbrev pub TrailsOf : List Variable → ℕ → List (List Symbol) → List (List Symbol) → List (List ℕ) → Type 0
TrailsOf variables n [] [] [] = Unit {0}
TrailsOf variables n (first ∷ symbols) (walk ∷ walks) (trail ∷ trails) =
    ((to : ℕ) × FollowsTrail variables first n 0 (drop 1 walk) trail to) × TrailsOf variables (n + 1) symbols walks trails
TrailsOf variables n _ _ _ = ⊥

-- exactly the variables that walks take are chosen
pub record TakeTrails (variables : List Variable) (symbols walks : List (List Symbol)) (point : List Bool) : Type 0 where
  pub trails : List (List ℕ)
  pub are : TrailsOf variables 0 symbols walks trails
  pub chosen : point ≡ with_more (replicate (length variables) false) (edges_of trails)
