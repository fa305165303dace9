-- What refusals are called. Want of memory has no name.
use Rattle.std.specs.Prelude.{ℕ, ◌++◌, ◌-◌, ◌<◌, ⊤, List, [], length, unwrap_or, codes}
use Rattle.std.specs.Fmt.{decimal}
use Rattle.merlin_model.specs.Networks.{Network}
use Rattle.packet_model.specs.Texts.{packet_text}
use Rattle.localise.specs.declared.fault.RateFault.{RateFault}
use Rattle.localise.specs.declared.fault.RateFault.TheVariants as rate_faults
use Rattle.policy_parser.specs.declared.fault.PolicyFault.{PolicyFault}
use Rattle.policy_parser.specs.declared.fault.PolicyFault.TheVariants as faults
use Rattle.policy_check.specs.declared.fault.CheckFault.{CheckFault}
use Rattle.policy_check.specs.declared.fault.CheckFault.TheVariants as check_faults
use Rattle.policy_check.specs.declared.fault.EndsFault.{EndsFault}
use Rattle.policy_check.specs.declared.fault.EndsFault.TheVariants as ends_faults
use Rattle.openflow_rules.specs.declared.fault.RuleFault.{RuleFault}
use Rattle.openflow_rules.specs.declared.fault.RuleFault.TheVariants as rule_faults
use Rattle.policy_flows.specs.declared.fault.ProgramFault.{ProgramFault}
use Rattle.policy_flows.specs.declared.fault.ProgramFault.TheVariants as program_faults
use Rattle.topology.specs.Look.{name_of}
use Rattle.topology_rules.specs.declared.fault.NetFault.{NetFault}
use Rattle.topology_rules.specs.declared.fault.NetFault.TheVariants as net_faults

abbrev pub policy_fault_text : PolicyFault → List ℕ
policy_fault_text (faults.BadByte at) = codes "policy byte at " ++ decimal at
policy_fault_text (faults.BadNumber at) = codes "policy number at " ++ decimal at
policy_fault_text (faults.Syntax at) = codes "policy syntax at " ++ decimal at
policy_fault_text (faults.DuplicateSet name) = codes "duplicate set " ++ name
policy_fault_text (faults.MixedSet name) = codes "mixed set " ++ name
policy_fault_text (faults.UnknownSet name) = codes "unknown set " ++ name
policy_fault_text (faults.TooManyStatements count) = codes "more than 4096 statements"
policy_fault_text (faults.DuplicateId id) = codes "duplicate id " ++ id
policy_fault_text faults.OutOfMemory = []

-- the count is the limit and one more
abbrev pub excess_text : List ℕ → ℕ → List ℕ
excess_text what count = (codes "more than " ++ (decimal (count - 1) ++ codes " ")) ++ what

abbrev pub shared_port_text : List ℕ → ℕ → List ℕ
shared_port_text name port = codes "duplicate port " ++ (name ++ (codes " " ++ decimal port))

abbrev pub net_fault_text : NetFault → List ℕ
net_fault_text net_faults.Json = codes "topology json"
net_fault_text (net_faults.Shape what) = codes "topology shape " ++ what
net_fault_text (net_faults.TooLarge what count) = excess_text what count
net_fault_text (net_faults.DuplicateName name) = codes "duplicate name " ++ name
net_fault_text (net_faults.DuplicateAddress name) = codes "duplicate address " ++ name
net_fault_text (net_faults.DuplicatePort name port) = shared_port_text name port
net_fault_text (net_faults.ParallelLink link) = codes "parallel link " ++ decimal link
net_fault_text (net_faults.HostLink name) = codes "host link " ++ name
net_fault_text (net_faults.Placement name) = codes "placement " ++ name
net_fault_text net_faults.OutOfMemory = []

-- two statements that share a packet
abbrev pub overlap_text : List ℕ → List ℕ → List ℕ → List ℕ
overlap_text first second packet =
    ((codes "overlap " ++ first) ++ (codes " " ++ second)) ++ (codes " " ++ packet)

-- a minimum above a maximum
abbrev pub conflict_text : List ℕ → ℕ → ℕ → List ℕ
conflict_text id least most =
    (codes "conflict " ++ id) ++ (codes " min " ++ (decimal least ++ (codes " max " ++ decimal most)))

abbrev pub rate_fault_text : RateFault → List ℕ
rate_fault_text (rate_faults.UnknownId id) = codes "unknown id " ++ id
rate_fault_text (rate_faults.RepeatedId id) = codes "repeated id " ++ id
rate_fault_text (rate_faults.ConstantTooLarge term) = codes "constant in term " ++ decimal term
rate_fault_text (rate_faults.LocalisedConflict id least most) = conflict_text id least most
rate_fault_text rate_faults.OutOfMemory = []

abbrev pub check_fault_text : CheckFault → List ℕ
check_fault_text (check_faults.UnknownName name) = codes "unknown name " ++ name
check_fault_text (check_faults.FunctionUnderNot name) = codes "function under not " ++ name
check_fault_text (check_faults.TooManyClasses count) = codes "more than 4194304 classes"
check_fault_text (check_faults.Overlap first second packet) =
    overlap_text first second (packet_text packet)
check_fault_text (check_faults.NotTotal packet) = codes "not total " ++ packet_text packet
check_fault_text (check_faults.Rate fault) = rate_fault_text fault
check_fault_text (check_faults.TooManyStates id count) = codes "more than 2048 states"
check_fault_text check_faults.OutOfMemory = []

-- the name of a location
abbrev pub location_name : Network → ℕ → List ℕ
location_name net loc = unwrap_or (name_of net loc) []

-- a text, and a pair of locations by their names
abbrev pub hosts_text : Network → List ℕ → ℕ × ℕ → List ℕ
hosts_text net front pair =
    (front ++ location_name net pair.0) ++ (codes " " ++ location_name net pair.1)

abbrev pub ends_text : Network → List ℕ → ℕ × ℕ → ℕ × ℕ → List ℕ
ends_text net id first second =
    ((codes "ends " ++ id) ++ hosts_text net (codes " ") first) ++ hosts_text net (codes " and ") second

abbrev pub ends_fault_text : Network → EndsFault → List ℕ
ends_fault_text net (ends_faults.TooManyGuarantees count) = codes "more than 64 guarantees"
ends_fault_text net (ends_faults.NoEnds id) = codes "no ends " ++ id
ends_fault_text net (ends_faults.ManyEnds id first second) = ends_text net id first second
ends_fault_text net ends_faults.OutOfMemory = []

abbrev pub rule_fault_text : RuleFault → List ℕ
rule_fault_text (rule_faults.TooManyTags count) = codes "more than 4094 tags"
rule_fault_text (rule_faults.TooManyCells count) = codes "more than 524288 cells"
rule_fault_text (rule_faults.TooManyEntries count) = codes "more than 524288 entries"
rule_fault_text rule_faults.OutOfMemory = []

abbrev pub program_fault_text : ProgramFault → List ℕ
program_fault_text (program_faults.Vertices count) = codes "more than 8192 vertices"
program_fault_text (program_faults.Edges count) = codes "more than 32768 edges"
program_fault_text (program_faults.Heavy statement link) = []
program_fault_text program_faults.OutOfMemory = []

-- a guarantee that is too heavy for the weight of a link
abbrev pub heavy_text : List ℕ → ℕ → List ℕ
heavy_text id link = codes "weight " ++ (id ++ (codes " " ++ decimal link))

-- both are locations of the network
abbrev pub AreLocations : Network → ℕ × ℕ → Type 0
AreLocations net pair = (pair.0 < length net.locations) × (pair.1 < length net.locations)

-- the fault names locations of the network
abbrev pub NamesLocations : Network → EndsFault → Type 0
NamesLocations net (ends_faults.ManyEnds id first second) = AreLocations net first × AreLocations net second
NamesLocations net fault = ⊤
