-- What is asked of the costs of edges, one after the other.
use Rattle.std.specs.Prelude.{ℕ, ◌≡◌, ◌≤◌, ◌<◌, ◌+◌, ◌⊎◌, List, Option, None, Some}
use Rattle.merlin_model.specs.declared.policy.Ends.{Ends}
use Rattle.merlin_model.specs.declared.limits.TheConstants.{MAX_COEFFICIENT}
use Rattle.merlin_model.specs.declared.network.DirectedLink.{DirectedLink}
use Rattle.cutoff_program.specs.declared.flow.FlowEdge.{FlowEdge}
use Rattle.cutoff_program.specs.declared.flow.Flow.{Flow}
use Rattle.cutoff_program.specs.Flows.{cost_over}
use Rattle.policy_flows.specs.declared.fault.ProgramFault.{ProgramFault}
use Rattle.policy_flows.specs.declared.fault.ProgramFault.TheVariants.{Vertices, Edges, Heavy, OutOfMemory}
use Rattle.policy_flows.specs.declared.limits.TheConstants.{MAX_PRODUCT_EDGES}
use Rattle.policy_flows.specs.Layouts.{edges_of_flows}
use Rattle.policy_flows.specs.Faults.{CrossesLink, IsFirstHeavy}

-- the edge crosses the link, and costs more than a coefficient may be
pub record IsHeavyEdge (links : List DirectedLink) (flow : Flow) (edge : FlowEdge) (link : ℕ) : Type 0 where
  pub crosses : CrossesLink edge link
  pub heavy : MAX_COEFFICIENT < cost_over links flow.rate edge.crosses

-- the lesser of two numbers, where there are any
abbrev pub IsLesserOf : Option ℕ → Option ℕ → Option ℕ → Type 0
IsLesserOf None second least = least ≡ second
IsLesserOf (Some a) None least = least ≡ Some a
IsLesserOf (Some a) (Some b) least = ((least ≡ Some a) × (a ≤ b)) ⊎ ((least ≡ Some b) × (b < a))

abbrev pub IsHeavyFault : List DirectedLink → List Ends → List Flow → ProgramFault → Type 0
IsHeavyFault links ends flows (Heavy statement link) = IsFirstHeavy links ends flows statement link
IsHeavyFault links ends flows (Vertices count) = ⊥
IsHeavyFault links ends flows (Edges count) = ⊥
IsHeavyFault links ends flows OutOfMemory = ⊥

abbrev pub IsEdgesFault : List Flow → ProgramFault → Type 0
IsEdgesFault flows (Edges count) = (count ≡ MAX_PRODUCT_EDGES + 1) × (MAX_PRODUCT_EDGES < edges_of_flows flows)
IsEdgesFault flows (Vertices count) = ⊥
IsEdgesFault flows (Heavy statement link) = ⊥
IsEdgesFault flows OutOfMemory = ⊥
