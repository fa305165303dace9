-- The line and the status of each reply to a delegation tree. Want of memory has no line.
use Rattle.std.specs.Prelude.{ℕ, ◌++◌, List, [], codes}
use Rattle.std.specs.Fmt.{decimal}
use Rattle.merlin_base.specs.declared.status.Status.{Status}
use Rattle.merlin_base.specs.declared.status.Status.TheVariants.{Done, Refused, RefineNo}
use Rattle.packet_model.specs.Texts.{packet_text}
use Rattle.refusal_text.specs.Refusals.{policy_fault_text, net_fault_text, check_fault_text}
use Rattle.delegation_text.specs.declared.fault.EntryFault.{EntryFault}
use Rattle.delegation_text.specs.declared.fault.EntryFault.TheVariants.{Json, Shape, DuplicateName, UnknownNode, TooManyNodes, OutOfMemory}
use Rattle.delegation_verdict.specs.declared.reply.DelegateReply.{DelegateReply}
use Rattle.delegation_verdict.specs.declared.reply.DelegateReply.TheVariants.{UnreadTree, UnreadScope, UnreadPolicy, UnreadTopology, WrongPolicy, TooManyClasses, SharedScopes, TooManyStatements, WrongJoin, TooManyCells, Wider, Accepted}

abbrev pub entry_fault_text : EntryFault → List ℕ
entry_fault_text Json = codes "tree json"
entry_fault_text (Shape what) = codes "tree shape " ++ what
entry_fault_text (DuplicateName name) = codes "duplicate name " ++ name
entry_fault_text (UnknownNode name) = codes "unknown node " ++ name
entry_fault_text (TooManyNodes count) = codes "more than 64 nodes"
entry_fault_text OutOfMemory = []

-- what is said of a node
abbrev pub named_node_text : List ℕ → List ℕ → List ℕ → List ℕ
named_node_text front node text = (front ++ node) ++ (codes ": " ++ text)

abbrev pub refused_node_text : List ℕ → List ℕ → List ℕ
refused_node_text node text = named_node_text (codes "refused node ") node text

-- two siblings whose scopes share a packet
abbrev pub shared_text : List ℕ → List ℕ → List ℕ → List ℕ
shared_text first second packet = ((codes "refused: scopes " ++ first) ++ (codes " " ++ second)) ++ (codes " " ++ packet)

abbrev pub accepted_text : ℕ → ℕ → List ℕ
accepted_text nodes statements = codes "accepted nodes " ++ (decimal nodes ++ (codes " statements " ++ decimal statements))

abbrev pub delegate_text : DelegateReply → List ℕ
delegate_text (UnreadTree fault) = codes "refused: " ++ entry_fault_text fault
delegate_text (UnreadScope node fault) = refused_node_text node (policy_fault_text fault)
delegate_text (UnreadPolicy node fault) = refused_node_text node (policy_fault_text fault)
delegate_text (UnreadTopology fault) = codes "refused: " ++ net_fault_text fault
delegate_text (WrongPolicy node fault) = refused_node_text node (check_fault_text fault)
delegate_text (TooManyClasses node) = refused_node_text node (codes "more than 4194304 classes")
delegate_text (SharedScopes first second packet) = shared_text first second (packet_text packet)
delegate_text (TooManyStatements node) = refused_node_text node (codes "more than 4096 statements")
delegate_text (WrongJoin node fault) = refused_node_text node (check_fault_text fault)
delegate_text (TooManyCells node) = refused_node_text node (codes "more than 524288 cells")
delegate_text (Wider node text) = named_node_text (codes "node ") node text
delegate_text (Accepted nodes statements) = accepted_text nodes statements

abbrev pub delegate_status : DelegateReply → Status
delegate_status (UnreadTree fault) = Refused
delegate_status (UnreadScope node fault) = Refused
delegate_status (UnreadPolicy node fault) = Refused
delegate_status (UnreadTopology fault) = Refused
delegate_status (WrongPolicy node fault) = Refused
delegate_status (TooManyClasses node) = Refused
delegate_status (SharedScopes first second packet) = Refused
delegate_status (TooManyStatements node) = Refused
delegate_status (WrongJoin node fault) = Refused
delegate_status (TooManyCells node) = Refused
delegate_status (Wider node text) = RefineNo
delegate_status (Accepted nodes statements) = Done
