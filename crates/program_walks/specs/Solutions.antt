-- Points and walks of a policy.
use Rattle.std.specs.Prelude.{ℕ, ◌≡◌, ◌+◌, Bool, true, false, List, [], ◌∷◌, map, length, replicate, Option, None, Some, slice_get, ◌⊎◌}
use Rattle.std.specs.List.{AllByRecursion, AllZip}
use Rattle.merlin_model.specs.declared.policy.Symbol.{Symbol}
use Rattle.merlin_model.specs.declared.policy.Ends.{Ends}
use Rattle.merlin_model.specs.declared.policy.Objective.{Objective}
use Rattle.merlin_model.specs.declared.policy.Value.{Value}
use Rattle.merlin_model.specs.Networks.{Network, IsNetwork, directed_links}
use Rattle.merlin_model.specs.Policies.{Policy}
use Rattle.merlin_model.specs.Assignments.{IsAssignment, IsFeasible, value_of}
use Rattle.merlin_model.specs.Programs.{IsSolution}
use Rattle.rules_model.specs.Products.{SymbolAutomaton}
use Rattle.cutoff_program.specs.Flows.{variables_of, last_of, program_at, cutoff_of, takes, is_below}
use Rattle.cutoff_program.specs.declared.flow.Flow.{Flow}
use Rattle.cutoff_program.specs.declared.flow.Problem.{Problem}
use Rattle.cutoff_program.specs.declared.flow.Variable.{Variable}
use Rattle.cutoff_program.specs.Trails.{IsPath, IsNeat, edges_of, comes_to}
use Rattle.cutoff_program.specs.Easy.{IsTrailThrough}
use Rattle.cutoff_program.specs.Walks.{IsFlowOf, IsSimple}
use Rattle.program_walks.specs.Paths.{IsChosenIn}
use Rattle.program_walks.specs.Marks.{with_more, symbol_in}

-- a path of the flow over chosen variables, or nothing where no trail leads to its end
pub record IsChosenPath (problem : Problem) (taken : List Bool) (n : ℕ) (flow : Flow) (path : List ℕ) : Type 0 where
  pub is_path : IsPath (variables_of problem) n path 0 (last_of flow)
  pub chosen : AllByRecursion (IsChosenIn taken) path

abbrev pub IsPathIf : Problem → List Bool → ℕ → Flow → List ℕ → Type 0
IsPathIf problem taken n flow path =
    IsChosenPath problem taken n flow path
    ⊎ ((path ≡ []) × ((trail : List ℕ) → ¬ IsTrailThrough problem (IsChosenIn taken) n flow trail))

-- the variables of such a path are chosen too
pub record TakesPath (problem : Problem) (taken : List Bool) (n : ℕ) (old new : List Bool) : Type 0 where
  pub path : List ℕ
  pub is : (flow : Flow) → slice_get problem.flows n ≡ Some flow → IsPathIf problem taken n flow path
  pub chosen : new ≡ with_more old path

-- such paths of flows, the first of which has number n
abbrev pub ArePathsIf : Problem → List Bool → ℕ → List Flow → List (List ℕ) → Type 0
ArePathsIf problem taken n [] [] = Unit {0}
ArePathsIf problem taken n (flow ∷ flows) (path ∷ paths) = IsPathIf problem taken n flow path × ArePathsIf problem taken (n + 1) flows paths
ArePathsIf problem taken n _ _ = ⊥

-- such paths of all flows are chosen
pub record TakesPaths (problem : Problem) (taken : List Bool) (flows : List Flow) (point : List Bool) : Type 0 where
  pub paths : List (List ℕ)
  pub are : ArePathsIf problem taken 0 flows paths
  pub chosen : point ≡ with_more (replicate (length (variables_of problem)) false) (edges_of paths)

-- a flow of a statement, and the symbols of the vertices of its product
pub record IsFlowWith (net : Network) (policy : Policy) (automata : ℕ → SymbolAutomaton) (ends : Ends) (flow : Flow) (symbols : List Symbol) : Type 0 where
  pub of : IsFlowOf net policy automata ends flow
  pub symbols_are : symbols ≡ map (λ v. v.symbol) of.product.vertices

abbrev pub AreFlowsWith : Network → Policy → (ℕ → SymbolAutomaton) → List Ends → List Flow → List (List Symbol) → Type 0
AreFlowsWith net policy automata [] [] [] = Unit {0}
AreFlowsWith net policy automata (e ∷ ends) (flow ∷ flows) (first ∷ symbols) =
    IsFlowWith net policy automata e flow first × AreFlowsWith net policy automata ends flows symbols
AreFlowsWith net policy automata _ _ _ = ⊥

-- The problem of a policy with the symbols of its vertices.
pub record IsLaidOut (net : Network) (policy : Policy) (automata : ℕ → SymbolAutomaton) (ends : List Ends) (objective : Objective) (problem : Problem) (symbols : List (List Symbol)) : Type 0 where
  pub network : IsNetwork net
  pub flows : AreFlowsWith net policy automata ends problem.flows symbols
  pub links_are : problem.links ≡ directed_links net
  pub objective_is : problem.objective ≡ objective

-- The point of walks is neat. It is a solution where they are feasible, also at each cutoff that their value is below.
pub record IsPointFor (net : Network) (policy : Policy) (ends : List Ends) (objective : Objective) (problem : Problem) (walks : List (List Symbol)) (point : List Bool) : Type 0 where
  pub neat : IsNeat problem point
  pub solution : IsFeasible net policy ends walks → IsSolution (program_at problem None) point
  pub better : (z : Value) → takes objective z ≡ true → IsFeasible net policy ends walks →
      is_below (value_of net policy ends objective walks) z ≡ true → IsSolution (program_at problem (Some z)) point

-- so it is for whatever policy the problem is laid out of, where the walks are allowed
abbrev pub IsPointOfWalks : Problem → List (List Symbol) → List (List Symbol) → List Bool → Type 0
IsPointOfWalks problem symbols walks point =
    (net : Network) (policy : Policy) (automata : ℕ → SymbolAutomaton) (ends : List Ends) (objective : Objective) →
    IsLaidOut net policy automata ends objective problem symbols → IsAssignment net policy ends walks →
    IsPointFor net policy ends objective problem walks point

-- Walks of a point: simple ones that are allowed and feasible, with a value that is no greater, and equal for a neat point.
pub record AreWalksFor (net : Network) (policy : Policy) (automata : ℕ → SymbolAutomaton) (ends : List Ends) (objective : Objective) (problem : Problem) (point : List Bool) (walks : List (List Symbol)) : Type 0 where
  pub assignment : IsAssignment net policy ends walks
  pub simple : AllZip (λ e w. IsSimple (automata e.statement) w) ends walks
  pub feasible : IsFeasible net policy ends walks
  pub no_more : is_below (cutoff_of problem point) (value_of net policy ends objective walks) ≡ false
  pub neat : IsNeat problem point → value_of net policy ends objective walks ≡ cutoff_of problem point

abbrev pub AreWalksOfPoint : Problem → List (List Symbol) → List Bool → List (List Symbol) → Type 0
AreWalksOfPoint problem symbols point walks =
    (net : Network) (policy : Policy) (automata : ℕ → SymbolAutomaton) (ends : List Ends) (objective : Objective) →
    IsLaidOut net policy automata ends objective problem symbols →
    (cutoff : Option Value) → IsSolution (program_at problem cutoff) point →
    AreWalksFor net policy automata ends objective problem point walks

-- the symbols of the vertices that a path comes to, the first one included
abbrev pub word_over : List Variable → List Symbol → List ℕ → List Symbol
word_over variables symbols path = map (symbol_in symbols) (0 ∷ comes_to variables path)

-- the word of a path of the flow over chosen variables, or an empty one where no trail leads to its end
abbrev pub IsWordIf : Problem → List Bool → ℕ → Flow → List Symbol → List Symbol → Type 0
IsWordIf problem point n flow symbols walk =
    ((path : List ℕ) × IsChosenPath problem point n flow path × (walk ≡ word_over (variables_of problem) symbols path))
    ⊎ ((trail : List ℕ) → ¬ IsTrailThrough problem (IsChosenIn point) n flow trail)

abbrev pub IsWordAt : Problem → List Bool → ℕ → List Symbol → List Symbol → Type 0
IsWordAt problem point n symbols walk =
    (flow : Flow) → slice_get problem.flows n ≡ Some flow → IsWordIf problem point n flow symbols walk

-- such words of flows, the first of which has number n
abbrev pub AreWordsIf : Problem → List Bool → ℕ → List Flow → List (List Symbol) → List (List Symbol) → Type 0
AreWordsIf problem point n [] [] [] = Unit {0}
AreWordsIf problem point n (flow ∷ flows) (first ∷ symbols) (walk ∷ walks) =
    IsWordIf problem point n flow first walk × AreWordsIf problem point (n + 1) flows symbols walks
AreWordsIf problem point n _ _ _ = ⊥
