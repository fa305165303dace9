-- What two texts stand for, as far as the search for walks.
use Rattle.std.specs.Prelude.{ℕ, ◌≡◌, ◌≤◌, List, length}
use Rattle.merlin_model.specs.declared.policy.Ends.{Ends}
use Rattle.merlin_model.specs.declared.policy.Symbol.{Symbol}
use Rattle.merlin_model.specs.Networks.{Network, directed_links}
use Rattle.merlin_model.specs.Policies.{Policy as NumberedPolicy, paths_of}
use Rattle.merlin_model.specs.Assignments.{AreAllEnds}
use Rattle.policy_expansion.specs.declared.policy.Policy.{Policy}
use Rattle.policy_parser.specs.Policies.{IsPolicyText}
use Rattle.policy_check.specs.declared.guarantees.TheConstants.{MAX_GUARANTEES}
use Rattle.policy_check.specs.Checked.{CheckedPolicy, IsCheckOf, IsSoundPolicy}
use Rattle.topology.specs.Symbols.{network_symbols}
use Rattle.topology_rules.specs.Faults.{IsTopology}
use Rattle.openflow_rules.specs.Planning.{IsWithinLimits}
use Rattle.cutoff_program.specs.declared.flow.Flow.{Flow}
use Rattle.policy_flows.specs.Layouts.{AreFlowsBetween, KeepsProductLimits}
use Rattle.walk_search.specs.Parts.{checked_parts}

-- Two texts stand for a policy over names and for a network.
pub record AreInputs (policy topology : List ℕ) (raw : Policy) (net : Network) : Type 0 where
  pub stands : IsPolicyText policy raw
  pub network : IsTopology topology net

-- The policy was checked over the network: it keeps all rules there, and each path has the number of an automaton.
pub record WasChecked (net : Network) (raw : Policy) (checked : CheckedPolicy) : Type 0 where
  pub is_check : IsCheckOf net (network_symbols net) raw checked
  pub sound : IsSoundPolicy checked.policy
  pub numbers : length checked.automaton_numbers ≡ length (paths_of checked.policy)

-- the guaranteed statements with the one pair of hosts of each, and they are few
pub record AreFewEnds (net : Network) (policy : NumberedPolicy) (ends : List Ends) : Type 0 where
  pub are : AreAllEnds net policy ends
  pub few : length ends ≤ MAX_GUARANTEES

-- The policy was checked, and each guaranteed statement has one pair of hosts.
pub record HasOnePairs (net : Network) (raw : Policy) (checked : CheckedPolicy) (ends : List Ends) : Type 0 where
  pub was : WasChecked net raw checked
  pub ends_are : AreFewEnds net checked.policy ends

-- Its tags, cells and entries are within their limits too.
pub record HasFewRules (net : Network) (raw : Policy) (checked : CheckedPolicy) (ends : List Ends) : Type 0 where
  pub pairs : HasOnePairs net raw checked ends
  pub within : IsWithinLimits net checked ends

-- the program of the guaranteed statements is within its limits
pub record HasProgram (net : Network) (checked : CheckedPolicy) (ends : List Ends) : Type 0 where
  pub flows : List Flow
  pub symbols : List (List Symbol)
  pub are : AreFlowsBetween net (checked_parts net checked) ends flows symbols
  pub limits : KeepsProductLimits (directed_links net) flows

-- What two texts stand for that nothing refuses: a network, and over it a policy that was checked, with the ends of its
-- guarantees, within the limits of rules and of the program.
pub record IsInput (policy_text topology_text : List ℕ) (net : Network) (checked : CheckedPolicy) (ends : List Ends) : Type 0 where
  pub raw : Policy
  pub read : AreInputs policy_text topology_text raw net
  pub rules : HasFewRules net raw checked ends
  pub program : HasProgram net checked ends
