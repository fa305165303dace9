-- Why two texts compile to nothing, in the order in which it is asked.
use Rattle.std.specs.Prelude.{ℕ, ◌≡◌, ⊤, List, [], Some, slice_get}
use Rattle.merlin_model.specs.declared.policy.Ends.{Ends}
use Rattle.merlin_model.specs.Networks.{Network}
use Rattle.rate_formula.specs.Usage.{ids_in}
use Rattle.policy_expansion.specs.declared.policy.Policy.{Policy}
use Rattle.policy_parser.specs.declared.fault.PolicyFault.TheVariants as policy_faults
use Rattle.policy_parser.specs.Policies.{IsPolicyText, IsRefused as IsRefusedPolicy}
use Rattle.policy_check.specs.declared.fault.CheckFault.TheVariants as check_faults
use Rattle.policy_check.specs.declared.fault.EndsFault.{EndsFault}
use Rattle.policy_check.specs.declared.fault.EndsFault.TheVariants as ends_faults
use Rattle.policy_check.specs.Checked.{CheckedPolicy}
use Rattle.policy_check.specs.Rules.{BreaksRule}
use Rattle.policy_check.specs.Ends.{BreaksEnds}
use Rattle.topology.specs.Symbols.{network_symbols}
use Rattle.topology_rules.specs.declared.fault.NetFault.{NetFault}
use Rattle.topology_rules.specs.declared.fault.NetFault.TheVariants as net_faults
use Rattle.topology_rules.specs.Faults.{IsTopology, Refuses as IsRefusedTopology}
use Rattle.openflow_rules.specs.declared.fault.RuleFault.{RuleFault}
use Rattle.openflow_rules.specs.declared.fault.RuleFault.TheVariants as rule_faults
use Rattle.openflow_rules.specs.Planning.{PassesLimit}
use Rattle.policy_flows.specs.declared.fault.ProgramFault.{ProgramFault}
use Rattle.policy_flows.specs.declared.fault.ProgramFault.TheVariants as program_faults
use Rattle.policy_flows.specs.Faults.{RefusesStatements}
use Rattle.walk_search.specs.Parts.{checked_parts}
use Rattle.refusal_text.specs.Refusals.{policy_fault_text, net_fault_text, check_fault_text, ends_fault_text, rule_fault_text, program_fault_text, heavy_text}
use Rattle.merlin_compile.specs.declared.fault.CompileFault.{CompileFault}
use Rattle.merlin_compile.specs.declared.fault.CompileFault.TheVariants as faults
use Rattle.merlin_compile.specs.Input.{AreInputs, WasChecked, HasOnePairs, HasFewRules}

-- some guaranteed statement has no ends, or there are too many; with what that is called over the network
pub record LacksEnds (net : Network) (raw : Policy) (checked : CheckedPolicy) (fault : EndsFault) (text : List ℕ) : Type 0 where
  pub was : WasChecked net raw checked
  pub breaks : BreaksEnds net checked.policy fault
  pub text_is : text ≡ ends_fault_text net fault

-- its tags, cells or entries pass a limit, and this names the first
pub record HasManyRules (net : Network) (raw : Policy) (checked : CheckedPolicy) (fault : RuleFault) : Type 0 where
  pub ends : List Ends
  pub pairs : HasOnePairs net raw checked ends
  pub passes : PassesLimit net checked ends fault

-- The program of guaranteed statements has too many vertices or edges. What is too heavy is said by the next definition.
abbrev pub PassesProgramLimit : Network → CheckedPolicy → List Ends → ProgramFault → Type 0
PassesProgramLimit net checked ends (program_faults.Vertices count) =
    RefusesStatements net (checked_parts net checked) ends (program_faults.Vertices count)
PassesProgramLimit net checked ends (program_faults.Edges count) =
    RefusesStatements net (checked_parts net checked) ends (program_faults.Edges count)
PassesProgramLimit net checked ends (program_faults.Heavy statement link) = ⊥
PassesProgramLimit net checked ends program_faults.OutOfMemory = ⊤

-- the first statement, by its id, whose guarantee costs too much on a link, and its least such link
pub record IsTooHeavy (net : Network) (checked : CheckedPolicy) (ends : List Ends) (id : List ℕ) (link : ℕ) : Type 0 where
  pub statement : ℕ
  pub named : slice_get (ids_in checked.policy) statement ≡ Some id
  pub heavy : RefusesStatements net (checked_parts net checked) ends (program_faults.Heavy statement link)

pub record HasLargeProgram (net : Network) (raw : Policy) (checked : CheckedPolicy) (fault : ProgramFault) : Type 0 where
  pub ends : List Ends
  pub rules : HasFewRules net raw checked ends
  pub large : PassesProgramLimit net checked ends fault

pub record HasHeavyGuarantee (net : Network) (raw : Policy) (checked : CheckedPolicy) (id : List ℕ) (link : ℕ) : Type 0 where
  pub ends : List Ends
  pub rules : HasFewRules net raw checked ends
  pub heavy : IsTooHeavy net checked ends id link

-- Why a policy that was checked does not compile: first its ends, then the limits of rules, then those of the program.
abbrev pub RefusesChecked : Network → Policy → CheckedPolicy → CompileFault → Type 0
RefusesChecked net raw checked (faults.Policy fault) = ⊥
RefusesChecked net raw checked (faults.Net fault) = ⊥
RefusesChecked net raw checked (faults.Check fault) = ⊥
RefusesChecked net raw checked (faults.Ends fault text) = LacksEnds net raw checked fault text
RefusesChecked net raw checked (faults.Rules fault) = HasManyRules net raw checked fault
RefusesChecked net raw checked (faults.Program fault) = HasLargeProgram net raw checked fault
RefusesChecked net raw checked (faults.Heavy id link) = HasHeavyGuarantee net raw checked id link
RefusesChecked net raw checked faults.OutOfMemory = ⊤

-- Why a policy does not compile over a network: the first rule that it breaks, else what a checked one lacks.
abbrev pub RefusesPolicy : Network → Policy → CompileFault → Type 0
RefusesPolicy net raw (faults.Policy fault) = ⊥
RefusesPolicy net raw (faults.Net fault) = ⊥
RefusesPolicy net raw (faults.Check fault) = BreaksRule net (network_symbols net) raw fault
RefusesPolicy net raw (faults.Ends fault text) =
    (checked : CheckedPolicy) × RefusesChecked net raw checked (faults.Ends fault text)
RefusesPolicy net raw (faults.Rules fault) =
    (checked : CheckedPolicy) × RefusesChecked net raw checked (faults.Rules fault)
RefusesPolicy net raw (faults.Program fault) =
    (checked : CheckedPolicy) × RefusesChecked net raw checked (faults.Program fault)
RefusesPolicy net raw (faults.Heavy id link) =
    (checked : CheckedPolicy) × RefusesChecked net raw checked (faults.Heavy id link)
RefusesPolicy net raw faults.OutOfMemory = ⊤

-- Why a topology is not read: the policy is read before.
pub record IsRefusedAfter (policy topology : List ℕ) (fault : NetFault) : Type 0 where
  pub raw : Policy
  pub stands : IsPolicyText policy raw
  pub refused : IsRefusedTopology fault topology

-- Why a policy is refused over a topology: both are read before.
pub record IsRefusedOver (policy topology : List ℕ) (fault : CompileFault) : Type 0 where
  pub raw : Policy
  pub net : Network
  pub read : AreInputs policy topology raw net
  pub refused : RefusesPolicy net raw fault

-- Why nothing is compiled: the policy is read first, then the topology. Then the rules are asked, the ends of guarantees, the
-- limits of tags, cells and entries, and at last those of the program: vertices, edges, and what a guarantee costs on a link.
abbrev pub IsCompileFault : CompileFault → List ℕ → List ℕ → Type 0
IsCompileFault (faults.Policy fault) policy topology = IsRefusedPolicy fault policy
IsCompileFault (faults.Net fault) policy topology = IsRefusedAfter policy topology fault
IsCompileFault (faults.Check fault) policy topology = IsRefusedOver policy topology (faults.Check fault)
IsCompileFault (faults.Ends fault text) policy topology = IsRefusedOver policy topology (faults.Ends fault text)
IsCompileFault (faults.Rules fault) policy topology = IsRefusedOver policy topology (faults.Rules fault)
IsCompileFault (faults.Program fault) policy topology = IsRefusedOver policy topology (faults.Program fault)
IsCompileFault (faults.Heavy id link) policy topology = IsRefusedOver policy topology (faults.Heavy id link)
IsCompileFault faults.OutOfMemory policy topology = ⊤

-- memory ran out
abbrev pub IsWantOfMemory : CompileFault → Type 0
IsWantOfMemory (faults.Policy policy_faults.OutOfMemory) = ⊤
IsWantOfMemory (faults.Net net_faults.OutOfMemory) = ⊤
IsWantOfMemory (faults.Check check_faults.OutOfMemory) = ⊤
IsWantOfMemory (faults.Ends ends_faults.OutOfMemory text) = ⊤
IsWantOfMemory (faults.Rules rule_faults.OutOfMemory) = ⊤
IsWantOfMemory (faults.Program program_faults.OutOfMemory) = ⊤
IsWantOfMemory faults.OutOfMemory = ⊤
IsWantOfMemory fault = ⊥

-- why a policy and a topology are refused: want of memory is no refusal
abbrev pub IsRefusal : CompileFault → List ℕ → List ℕ → Type 0
IsRefusal fault policy topology = (¬ IsWantOfMemory fault) × IsCompileFault fault policy topology

-- what a refusal is called
abbrev pub compile_fault_text : CompileFault → List ℕ
compile_fault_text (faults.Policy fault) = policy_fault_text fault
compile_fault_text (faults.Net fault) = net_fault_text fault
compile_fault_text (faults.Check fault) = check_fault_text fault
compile_fault_text (faults.Ends fault text) = text
compile_fault_text (faults.Rules fault) = rule_fault_text fault
compile_fault_text (faults.Program fault) = program_fault_text fault
compile_fault_text (faults.Heavy id link) = heavy_text id link
compile_fault_text faults.OutOfMemory = []
