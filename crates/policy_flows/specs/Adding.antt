-- Flows that are added one after the other.
use Rattle.std.specs.Prelude.{ℕ, ◌≡◌, ◌≤◌, ◌<◌, ◌+◌, List, [], ◌∷◌, ◌++◌}
use Rattle.merlin_model.specs.declared.policy.Symbol.{Symbol}
use Rattle.merlin_model.specs.declared.policy.Ends.{Ends}
use Rattle.merlin_model.specs.Networks.{Network}
use Rattle.rules_model.specs.Products.{SymbolAutomaton}
use Rattle.cutoff_program.specs.declared.flow.Flow.{Flow}
use Rattle.policy_flows.specs.declared.fault.ProgramFault.{ProgramFault}
use Rattle.policy_flows.specs.declared.fault.ProgramFault.TheVariants.{Vertices, Edges, Heavy, OutOfMemory}
use Rattle.policy_flows.specs.declared.limits.TheConstants.{MAX_PRODUCT_VERTICES}
use Rattle.policy_flows.specs.declared.layout.FlowList.{FlowList}
use Rattle.policy_flows.specs.Layouts.{StatementParts, IsFlowBetween, AreFlowsBetween, vertices_of_flows}

-- the flow between the ends was added, and what its vertices leave of the room
pub record IsAddedFlow (net : Network) (a : SymbolAutomaton) (rate : ℕ) (ends : Ends) (room left : ℕ) (old new : FlowList) : Type 0 where
  pub flow : Flow
  pub symbols : List Symbol
  pub is : IsFlowBetween net a rate ends.src ends.dst flow symbols
  pub flows : new.flows ≡ old.flows ++ flow ∷ []
  pub spelled : new.symbols ≡ old.symbols ++ symbols ∷ []
  pub vertices : left + flow.vertices ≡ room

-- the flow between the ends has more vertices than there is room for
pub record IsBeyond (net : Network) (a : SymbolAutomaton) (rate : ℕ) (ends : Ends) (room : ℕ) : Type 0 where
  pub flow : Flow
  pub symbols : List Symbol
  pub is : IsFlowBetween net a rate ends.src ends.dst flow symbols
  pub many : room < flow.vertices

abbrev pub IsPastRoom : Network → SymbolAutomaton → ℕ → Ends → ℕ → ProgramFault → Type 0
IsPastRoom net a rate ends room (Vertices count) = (count ≡ MAX_PRODUCT_VERTICES + 1) × IsBeyond net a rate ends room
IsPastRoom net a rate ends room (Edges count) = ⊥
IsPastRoom net a rate ends room (Heavy statement link) = ⊥
IsPastRoom net a rate ends room OutOfMemory = Unit {0}

-- the flows of statements, which have few vertices
pub record AreFewSpelled (net : Network) (parts : StatementParts) (ends : List Ends) (list : FlowList) : Type 0 where
  pub are : AreFlowsBetween net parts ends list.flows list.symbols
  pub few : vertices_of_flows list.flows ≤ MAX_PRODUCT_VERTICES
