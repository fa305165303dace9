-- Why guaranteed statements have no program.
use Rattle.std.specs.Prelude.{ℕ, ◌≡◌, ◌≤◌, ◌<◌, ◌+◌, ◌*◌, ◌⊎◌, List, take, Some, slice_get, Contains}
use Rattle.std.specs.List.{AllByRecursion}
use Rattle.merlin_model.specs.declared.policy.Symbol.{Symbol}
use Rattle.merlin_model.specs.declared.policy.Ends.{Ends}
use Rattle.merlin_model.specs.declared.limits.TheConstants.{MAX_COEFFICIENT}
use Rattle.merlin_model.specs.declared.network.DirectedLink.{DirectedLink}
use Rattle.merlin_model.specs.Networks.{Network, directed_links}
use Rattle.cutoff_program.specs.declared.flow.FlowEdge.{FlowEdge}
use Rattle.cutoff_program.specs.declared.flow.Flow.{Flow}
use Rattle.cutoff_program.specs.Flows.{cost_over}
use Rattle.policy_flows.specs.declared.fault.ProgramFault.{ProgramFault}
use Rattle.policy_flows.specs.declared.fault.ProgramFault.TheVariants.{Vertices, Edges, Heavy, OutOfMemory}
use Rattle.policy_flows.specs.declared.limits.TheConstants.{MAX_PRODUCT_VERTICES, MAX_PRODUCT_EDGES}
use Rattle.policy_flows.specs.Layouts.{StatementParts, AreFlowsBetween, IsLight, vertices_of_flows, edges_of_flows}

-- already the flows of the first so many statements have more vertices than all may have
pub record HaveManyVertices (net : Network) (parts : StatementParts) (ends : List Ends) : Type 0 where
  pub count : ℕ
  pub flows : List Flow
  pub symbols : List (List Symbol)
  pub are : AreFlowsBetween net parts (take count ends) flows symbols
  pub many : MAX_PRODUCT_VERTICES < vertices_of_flows flows

pub record HaveManyEdges (net : Network) (parts : StatementParts) (ends : List Ends) : Type 0 where
  pub flows : List Flow
  pub symbols : List (List Symbol)
  pub are : AreFlowsBetween net parts ends flows symbols
  pub few_vertices : vertices_of_flows flows ≤ MAX_PRODUCT_VERTICES
  pub many : MAX_PRODUCT_EDGES < edges_of_flows flows

-- an edge crosses the link, in one of its two directions
abbrev pub CrossesLink : FlowEdge → ℕ → Type 0
CrossesLink edge link = (edge.crosses ≡ Some (2 * link)) ⊎ (edge.crosses ≡ Some (2 * link + 1))

-- an edge of the flow crosses the link, and costs more than a coefficient may be
pub record IsHeavyOn (links : List DirectedLink) (flow : Flow) (link : ℕ) : Type 0 where
  pub edge : FlowEdge
  pub has : Contains flow.edges edge
  pub crosses : CrossesLink edge link
  pub heavy : MAX_COEFFICIENT < cost_over links flow.rate edge.crosses

-- no edge of the flow costs more
abbrev pub IsLightFlow : List DirectedLink → Flow → Type 0
IsLightFlow links flow = AllByRecursion (IsLight links flow) flow.edges

-- the least link on which the flow is too heavy
pub record IsLeastHeavy (links : List DirectedLink) (flow : Flow) (link : ℕ) : Type 0 where
  pub heavy : IsHeavyOn links flow link
  pub least : (other : ℕ) → IsHeavyOn links flow other → link ≤ other

-- the first flow that is too heavy on a link is that of the statement, with its least such link
pub record IsFirstHeavy (links : List DirectedLink) (ends : List Ends) (flows : List Flow) (statement link : ℕ) : Type 0 where
  pub place : ℕ
  pub of : Ends
  pub flow : Flow
  pub stands : slice_get ends place ≡ Some of
  pub has : slice_get flows place ≡ Some flow
  pub named : statement ≡ of.statement
  pub least : IsLeastHeavy links flow link
  pub earlier : AllByRecursion (IsLightFlow links) (take place flows)

pub record HaveHeavyFlow (net : Network) (parts : StatementParts) (ends : List Ends) (statement link : ℕ) : Type 0 where
  pub flows : List Flow
  pub symbols : List (List Symbol)
  pub are : AreFlowsBetween net parts ends flows symbols
  pub few_vertices : vertices_of_flows flows ≤ MAX_PRODUCT_VERTICES
  pub few_edges : edges_of_flows flows ≤ MAX_PRODUCT_EDGES
  pub first : IsFirstHeavy (directed_links net) ends flows statement link

-- the cause of each fault; want of memory needs none
abbrev pub RefusesStatements : Network → StatementParts → List Ends → ProgramFault → Type 0
RefusesStatements net parts ends (Vertices count) = (count ≡ MAX_PRODUCT_VERTICES + 1) × HaveManyVertices net parts ends
RefusesStatements net parts ends (Edges count) = (count ≡ MAX_PRODUCT_EDGES + 1) × HaveManyEdges net parts ends
RefusesStatements net parts ends (Heavy statement link) = HaveHeavyFlow net parts ends statement link
RefusesStatements net parts ends OutOfMemory = Unit {0}
