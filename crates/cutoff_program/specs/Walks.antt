-- The problem of a policy, and what its points and walks have to do with each other.
use Rattle.std.specs.Prelude.{ℕ, ◌≡◌, ◌≢◌, ◌≤◌, ◌*◌, ◌^◌, Bool, true, false, List, [], ◌∷◌, length, map, sum_by, None, Some, slice_get}
use Rattle.std.specs.Option.{option_map_or}
use Rattle.std.specs.List.{AllByRecursion, AllZip}
use Rattle.merlin_model.specs.declared.network.DirectedLink.{DirectedLink}
use Rattle.merlin_model.specs.declared.policy.Symbol.{Symbol}
use Rattle.merlin_model.specs.declared.policy.Ends.{Ends}
use Rattle.merlin_model.specs.declared.policy.Path.{Path}
use Rattle.merlin_model.specs.declared.policy.Objective.{Objective}
use Rattle.merlin_model.specs.declared.policy.Value.{Value}
use Rattle.merlin_model.specs.Networks.{Network, directed_links, IsHost, AreDifferent}
use Rattle.merlin_model.specs.Words.{at, IsWalk, crossings}
use Rattle.merlin_model.specs.Policies.{Policy, paths_of, IsOnPath}
use Rattle.merlin_model.specs.Rates.{min_of}
use Rattle.merlin_model.specs.Assignments.{IsAssignment, IsFeasible, value_of}
use Rattle.merlin_model.specs.Programs.{IsSolution}
use Rattle.rules_model.specs.Products.{SymbolAutomaton, Vertex, RecognisesPath}
use Rattle.cutoff_program.specs.Flows.{Flow, Problem, Variable, variables_of, last_of, rate_over, cost_of_variable, program_at, cutoff_of, takes, is_below}
use Rattle.cutoff_program.specs.Trails.{IsTrailOf, sum_along, comes_to, IsNeat}
use Rattle.cutoff_program.specs.Products.{Product, IsProductOfHosts, flow_of}

-- the automaton takes exactly the words of the network's symbols that are on the path of statement i
pub record IsAutomatonFor (net : Network) (policy : Policy) (i : ℕ) (a : SymbolAutomaton) : Type 0 where
  pub path : Path
  pub has : slice_get (paths_of policy) i ≡ Some path
  pub recognises : RecognisesPath net a path

pub record AreTwoHosts (net : Network) (ends : Ends) : Type 0 where
  pub src : IsHost net ends.src
  pub dst : IsHost net ends.dst
  pub differ : ends.src ≢ ends.dst

-- the flow of a guaranteed statement: its product, with its localised minimum
pub record IsFlowOf (net : Network) (policy : Policy) (automata : ℕ → SymbolAutomaton) (ends : Ends) (flow : Flow) : Type 0 where
  pub hosts : AreTwoHosts net ends
  pub automaton : IsAutomatonFor net policy ends.statement (automata ends.statement)
  pub product : Product
  pub is_product : IsProductOfHosts net (automata ends.statement) ends.src ends.dst product
  pub is : flow ≡ flow_of net (min_of policy ends.statement) product

-- the problem of a policy: the flows of its guaranteed statements over the links of the network
pub record IsProblemOf (net : Network) (policy : Policy) (automata : ℕ → SymbolAutomaton) (ends : List Ends) (objective : Objective) (problem : Problem) : Type 0 where
  pub flows : AllZip (IsFlowOf net policy automata) ends problem.flows
  pub links_are : problem.links ≡ directed_links net
  pub objective_is : problem.objective ≡ objective

-- the symbols of a word, each with the state after it
abbrev pub vertices_along : SymbolAutomaton → ℕ → List Symbol → List Vertex
vertices_along a q [] = []
vertices_along a q (x ∷ w) = record { symbol = x; state = a.step q x } ∷ vertices_along a (a.step q x) w

-- no two of its beginnings that end in the same symbol lead to the same state
abbrev pub IsSimple : SymbolAutomaton → List Symbol → Type 0
IsSimple a w = AreDifferent (vertices_along a 0 w)

module _ (net : Network) (policy : Policy) (automata : ℕ → SymbolAutomaton) (ends : List Ends) (objective : Objective) (problem : Problem) where
  -- a neat point for some walks: a solution, and one at each cutoff that their value is below
  pub record HasPoint (walks : List (List Symbol)) : Type 0 where
    pub point : List Bool
    pub solution : IsSolution (program_at problem None) point
    pub better : (z : Value) → takes objective z ≡ true → is_below (value_of net policy ends objective walks) z ≡ true → IsSolution (program_at problem (Some z)) point
    pub neat : IsNeat problem point

  -- simple walks for a point: feasible, with a value that is no greater, and equal for a neat point
  pub record HasWalks (point : List Bool) : Type 0 where
    pub walks : List (List Symbol)
    pub assignment : IsAssignment net policy ends walks
    pub simple : AllZip (λ e w. IsSimple (automata e.statement) w) ends walks
    pub feasible : IsFeasible net policy ends walks
    pub no_more : is_below (cutoff_of problem point) (value_of net policy ends objective walks) ≡ false
    pub neat : IsNeat problem point → value_of net policy ends objective walks ≡ cutoff_of problem point

-- the limits of a problem: guaranteed statements and their rates, vertices, edges, and what the links carry
pub record KeepsPolicyLimits (net : Network) (policy : Policy) (ends : List Ends) (problem : Problem) : Type 0 where
  pub few : length ends ≤ 64
  pub rates : AllByRecursion (λ e. min_of policy e.statement ≤ 10 ^ 9) ends
  pub vertices : sum_by (λ flow. flow.vertices) problem.flows ≤ 8192
  pub edges : length (variables_of problem) ≤ 32768
  pub links_few : length (directed_links net) ≤ 2048
  pub capacities : AllByRecursion (λ directed. directed.capacity ≤ 10 ^ 9) (directed_links net)
  pub costs : AllByRecursion (λ v. cost_of_variable problem v ≤ 10 ^ 9) (variables_of problem)

-- a walk of a statement and a trail of its flow cross each link alike
abbrev pub CrossesAlike : Network → Policy → List Variable → Ends → List Symbol → List ℕ → Type 0
CrossesAlike net policy variables ends walk trail =
    (l : ℕ) (directed : DirectedLink) → slice_get (directed_links net) l ≡ Some directed → sum_along variables (rate_over l) trail ≡ min_of policy ends.statement * crossings walk directed.from directed.to

-- A path through the product of a statement and a walk that is allowed.
pub record HasTrailFor (net : Network) (policy : Policy) (variables : List Variable) (n : ℕ) (flow : Flow) (ends : Ends) (walk : List Symbol) : Type 0 where
  pub trail : List ℕ
  pub steps : IsTrailOf variables n trail 0 (last_of flow)
  pub spelled : CrossesAlike net policy variables ends walk trail

-- the symbols of the vertices that a path comes to, the first one included
abbrev pub no_symbol : Symbol
no_symbol = at 0

abbrev pub symbol_of_vertex : List Vertex → ℕ → Symbol
symbol_of_vertex vertices k = option_map_or (λ v. v.symbol) (slice_get vertices k) no_symbol

abbrev pub word_along : List Variable → List Vertex → List ℕ → List Symbol
word_along variables vertices path = map (symbol_of_vertex vertices) (0 ∷ comes_to variables path)

pub record HasWalkFor (net : Network) (policy : Policy) (automata : ℕ → SymbolAutomaton) (variables : List Variable) (ends : Ends) (vertices : List Vertex) (path : List ℕ) : Type 0 where
  pub walk : List Symbol
  pub is : walk ≡ word_along variables vertices path
  pub is_walk : IsWalk net ends.src ends.dst walk
  pub on_path : IsOnPath policy ends.statement walk
  pub simple : IsSimple (automata ends.statement) walk
  pub spelled : CrossesAlike net policy variables ends walk path
