-- The flows of guaranteed statements over the links of a network, whatever policy they are of.
use Rattle.std.specs.Prelude.{ℕ, ◌≡◌, ◌≤◌, ◌<◌, List, [], ◌∷◌, map, length, sum_by}
use Rattle.std.specs.List.{AllByRecursion, slice_index_or}
use Rattle.merlin_model.specs.declared.policy.Symbol.{Symbol}
use Rattle.merlin_model.specs.declared.policy.Ends.{Ends}
use Rattle.merlin_model.specs.declared.policy.Objective.{Objective}
use Rattle.merlin_model.specs.declared.limits.TheConstants.{MAX_RATE, MAX_COEFFICIENT}
use Rattle.merlin_model.specs.declared.network.DirectedLink.{DirectedLink}
use Rattle.merlin_model.specs.Networks.{Network, IsHost, directed_links}
use Rattle.rules_model.specs.Products.{SymbolAutomaton}
use Rattle.path_automaton.specs.Automata.{AutomatonTables}
use Rattle.topology.specs.Symbols.{network_symbols}
use Rattle.product_graph.specs.Products.{automaton_of}
use Rattle.cutoff_program.specs.declared.flow.FlowEdge.{FlowEdge}
use Rattle.cutoff_program.specs.declared.flow.Flow.{Flow}
use Rattle.cutoff_program.specs.declared.flow.Problem.{Problem}
use Rattle.cutoff_program.specs.Flows.{cost_over}
use Rattle.cutoff_program.specs.Products.{Product, IsProductOfHosts, flow_of}
use Rattle.policy_flows.specs.declared.limits.TheConstants.{MAX_PRODUCT_VERTICES, MAX_PRODUCT_EDGES}

-- What of each statement comes into its flow.
pub record StatementParts : Type 0 where
  pub automaton : ℕ → SymbolAutomaton
  pub rate : ℕ → ℕ

abbrev pub no_tables : AutomatonTables
no_tables = record { steps = []; width = 0; accepting = []; living = [] }

-- automata over the network's symbols and rates, by the numbers of statements
abbrev pub statement_parts : Network → List AutomatonTables → List ℕ → StatementParts
statement_parts net automata rates = record {
  automaton = λ i. automaton_of (network_symbols net) (slice_index_or automata i no_tables);
  rate = λ i. slice_index_or rates i 0;
}

-- the flow is the product between two hosts with a rate, and these are the symbols of the product's vertices
pub record IsFlowBetween (net : Network) (a : SymbolAutomaton) (rate src dst : ℕ) (flow : Flow) (symbols : List Symbol) : Type 0 where
  pub product : Product
  pub is_product : IsProductOfHosts net a src dst product
  pub is : flow ≡ flow_of net rate product
  pub symbols_are : symbols ≡ map (λ v. v.symbol) product.vertices

-- such flows of statements in order, each between its ends
abbrev pub AreFlowsBetween : Network → StatementParts → List Ends → List Flow → List (List Symbol) → Type 0
AreFlowsBetween net parts [] [] [] = Unit {0}
AreFlowsBetween net parts (e ∷ ends) (flow ∷ flows) (first ∷ symbols) =
    IsFlowBetween net (parts.automaton e.statement) (parts.rate e.statement) e.src e.dst flow first
    × AreFlowsBetween net parts ends flows symbols
AreFlowsBetween net parts _ _ _ = ⊥

-- the flows over the links of the network, with the symbols of the vertices
pub record IsLayout (net : Network) (parts : StatementParts) (ends : List Ends) (objective : Objective) (problem : Problem) (symbols : List (List Symbol)) : Type 0 where
  pub flows : AreFlowsBetween net parts ends problem.flows symbols
  pub links_are : problem.links ≡ directed_links net
  pub objective_is : problem.objective ≡ objective

-- What the flows have together. Where no walk is allowed a flow has neither vertices nor edges.

abbrev pub vertices_of_flows : List Flow → ℕ
vertices_of_flows flows = sum_by (λ flow. flow.vertices) flows

abbrev pub edges_of_flows : List Flow → ℕ
edges_of_flows flows = sum_by (λ flow. length flow.edges) flows

-- what the edge costs may be a coefficient
abbrev pub IsLight : List DirectedLink → Flow → FlowEdge → Type 0
IsLight links flow edge = cost_over links flow.rate edge.crosses ≤ MAX_COEFFICIENT

pub record KeepsProductLimits (links : List DirectedLink) (flows : List Flow) : Type 0 where
  pub vertices : vertices_of_flows flows ≤ MAX_PRODUCT_VERTICES
  pub edges : edges_of_flows flows ≤ MAX_PRODUCT_EDGES
  pub costs : AllByRecursion (λ flow. AllByRecursion (IsLight links flow) flow.edges) flows

-- There is an automaton over the network's symbols for the statement, and a rate that is no greater than rates may be; and it
-- is between hosts.
pub record HasParts (net : Network) (automata : List AutomatonTables) (rates : List ℕ) (ends : Ends) : Type 0 where
  pub automaton : ends.statement < length automata
  pub width : (slice_index_or automata ends.statement no_tables).width ≡ length (network_symbols net)
  pub rate : ends.statement < length rates
  pub small : slice_index_or rates ends.statement 0 ≤ MAX_RATE
  pub src : IsHost net ends.src
  pub dst : IsHost net ends.dst
