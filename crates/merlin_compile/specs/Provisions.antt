-- What is found for a policy over a network, on the way to a whole result.
use Rattle.std.specs.Prelude.{ℕ, ◌≡◌, ⊤, List}
use Rattle.std.specs.List.{AllByRecursion}
use Rattle.merlin_model.specs.declared.certificate.Tree.{Tree}
use Rattle.merlin_model.specs.declared.config.Config.{Config}
use Rattle.merlin_model.specs.declared.policy.Ends.{Ends}
use Rattle.merlin_model.specs.declared.policy.Objective.{Objective}
use Rattle.merlin_model.specs.declared.policy.Symbol.{Symbol}
use Rattle.merlin_model.specs.declared.policy.Value.{Value}
use Rattle.merlin_model.specs.Networks.{Network}
use Rattle.merlin_model.specs.Policies.{Policy as NumberedPolicy}
use Rattle.merlin_model.specs.Rates.{IsGuaranteed}
use Rattle.policy_expansion.specs.declared.policy.Policy.{Policy}
use Rattle.policy_check.specs.Checked.{CheckedPolicy, IsCheckOf}
use Rattle.topology.specs.Symbols.{network_symbols}
use Rattle.openflow_rules.specs.Planning.{IsWithinLimits, PassesLimit}
use Rattle.walk_search.specs.Found.{IsFoundFor}
use Rattle.walk_search.specs.Parts.{checked_parts}
use Rattle.walk_search.specs.declared.found.WalksFound.{WalksFound}
use Rattle.walk_search.specs.declared.found.WalksFound.TheVariants as found
use Rattle.policy_check.specs.declared.fault.EndsFault.{EndsFault}
use Rattle.policy_flows.specs.declared.fault.ProgramFault.{ProgramFault}
use Rattle.policy_flows.specs.declared.fault.ProgramFault.TheVariants as program_fault
use Rattle.refusal_text.specs.Refusals.{ends_fault_text}
use Rattle.merlin_compile.specs.declared.fault.CompileFault.{CompileFault}
use Rattle.merlin_compile.specs.declared.fault.CompileFault.TheVariants as faults
use Rattle.merlin_compile.specs.declared.provisioning.Provision.{Provision}
use Rattle.merlin_compile.specs.declared.provisioning.Provision.TheVariants.{Least, Infeasible, Budget}
use Rattle.merlin_compile.specs.Input.{WasChecked, HasOnePairs, HasFewRules}
use Rattle.merlin_compile.specs.Causes.{PassesProgramLimit, IsTooHeavy}
use Rattle.merlin_compile.specs.Compiled.{AreIdsOf, IsProvisioned}

-- of some policy over names

abbrev pub IsCheckOfSome : Network → CheckedPolicy → Type 0
IsCheckOfSome net checked = (raw : Policy) × IsCheckOf net (network_symbols net) raw checked

abbrev pub IsAnyCheck : Network → CheckedPolicy → Type 0
IsAnyCheck net checked = (raw : Policy) × WasChecked net raw checked

abbrev pub HaveOnePairs : Network → CheckedPolicy → List Ends → Type 0
HaveOnePairs net checked ends = (raw : Policy) × HasOnePairs net raw checked ends

abbrev pub HaveFewRules : Network → CheckedPolicy → List Ends → Type 0
HaveFewRules net checked ends = (raw : Policy) × HasFewRules net raw checked ends

abbrev pub IsFoundForSome : Network → CheckedPolicy → List Ends → WalksFound → Type 0
IsFoundForSome net checked ends found =
    (objective : Objective) × (budget : ℕ) × IsFoundFor net checked.policy (checked_parts net checked) ends objective budget found

-- statements that are guaranteed

abbrev pub AreGuaranteedEnds : NumberedPolicy → List Ends → Type 0
AreGuaranteedEnds policy ends = AllByRecursion (λ e. IsGuaranteed policy e.statement) ends

abbrev pub NamesGuaranteed : NumberedPolicy → ProgramFault → Type 0
NamesGuaranteed policy (program_fault.Heavy statement link) = IsGuaranteed policy statement
NamesGuaranteed policy fault = ⊤

-- the refusal is this fault of ends, with its name
abbrev pub IsRefusedEnds : Network → EndsFault → CompileFault → Type 0
IsRefusedEnds net is (faults.Ends fault text) = (fault ≡ is) × (text ≡ ends_fault_text net is)
IsRefusedEnds net is faults.OutOfMemory = ⊤
IsRefusedEnds net is fault = ⊥

-- what is found for a checked policy with its ends

pub record IsLeastProvision (net : Network) (checked : CheckedPolicy) (ends : List Ends) (objective : Objective) (budget : ℕ) (ids : List (List ℕ)) (value : Value) (walks : List (List Symbol)) (config : Config) (tree : Tree) : Type 0 where
  pub ids_are : AreIdsOf checked.policy ends ids
  pub provisioned : IsProvisioned net checked ends walks config
  pub found : IsFoundFor net checked.policy (checked_parts net checked) ends objective budget (found.Least value walks tree)

pub record IsSpentProvision (net : Network) (checked : CheckedPolicy) (ends : List Ends) (objective : Objective) (budget : ℕ) (ids : List (List ℕ)) (outcome : WalksFound) : Type 0 where
  pub ids_are : AreIdsOf checked.policy ends ids
  pub is_found : IsFoundFor net checked.policy (checked_parts net checked) ends objective budget outcome

abbrev pub IsProvisionOf : Network → CheckedPolicy → List Ends → Objective → ℕ → Provision → Type 0
IsProvisionOf net checked ends objective budget (Least ids value walks config tree) =
    IsLeastProvision net checked ends objective budget ids value walks config tree
IsProvisionOf net checked ends objective budget (Infeasible tree) =
    IsFoundFor net checked.policy (checked_parts net checked) ends objective budget (found.Infeasible tree)
IsProvisionOf net checked ends objective budget (Budget ids best bound tree) =
    IsSpentProvision net checked ends objective budget ids (found.Budget best bound tree)

-- why the program of its guarantees gives nothing
abbrev pub IsProgramRefused : Network → CheckedPolicy → List Ends → CompileFault → Type 0
IsProgramRefused net checked ends (faults.Program fault) = PassesProgramLimit net checked ends fault
IsProgramRefused net checked ends (faults.Heavy id link) = IsTooHeavy net checked ends id link
IsProgramRefused net checked ends faults.OutOfMemory = ⊤
IsProgramRefused net checked ends fault = ⊥

-- the same, once its rules are within their limits
pub record IsProvisionWithin (net : Network) (checked : CheckedPolicy) (ends : List Ends) (objective : Objective) (budget : ℕ) (provision : Provision) : Type 0 where
  pub within : IsWithinLimits net checked ends
  pub is : IsProvisionOf net checked ends objective budget provision

abbrev pub IsPlanRefused : Network → CheckedPolicy → List Ends → CompileFault → Type 0
IsPlanRefused net checked ends (faults.Rules fault) = PassesLimit net checked ends fault
IsPlanRefused net checked ends (faults.Program fault) = IsWithinLimits net checked ends × PassesProgramLimit net checked ends fault
IsPlanRefused net checked ends (faults.Heavy id link) = IsWithinLimits net checked ends × IsTooHeavy net checked ends id link
IsPlanRefused net checked ends faults.OutOfMemory = ⊤
IsPlanRefused net checked ends fault = ⊥

-- what is found for a policy over names
pub record IsProvisionFor (net : Network) (raw : Policy) (objective : Objective) (budget : ℕ) (provision : Provision) : Type 0 where
  pub checked : CheckedPolicy
  pub ends : List Ends
  pub rules : HasFewRules net raw checked ends
  pub is : IsProvisionOf net checked ends objective budget provision
