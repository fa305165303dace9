-- The command `refine`.
use Rattle.std.specs.Prelude.{◌≡◌, ◌≢◌, ◌++◌, ℕ, ⊤, List, [], ◌∷◌, codes}
use Rattle.merlin_base.specs.declared.status.Status.{Status}
use Rattle.merlin_base.specs.declared.status.Status.TheVariants as status
use Rattle.merlin_model.specs.Networks.{Network}
use Rattle.merlin_model.specs.Policies.{Policy as NumberedPolicy}
use Rattle.config_text.specs.Words.{line}
use Rattle.policy_expansion.specs.declared.policy.Policy.{Policy}
use Rattle.policy_parser.specs.declared.fault.PolicyFault.{PolicyFault}
use Rattle.policy_parser.specs.declared.fault.PolicyFault.TheVariants as faults
use Rattle.policy_parser.specs.Policies.{IsPolicyText, IsRefused as IsRefusedPolicy}
use Rattle.policy_check.specs.declared.fault.CheckFault.{CheckFault}
use Rattle.policy_check.specs.declared.fault.CheckFault.TheVariants as check_faults
use Rattle.policy_check.specs.Numbered.{numbered_policy}
use Rattle.policy_check.specs.Rules.{KeepsAllRules, BreaksRule}
use Rattle.topology.specs.Symbols.{network_symbols}
use Rattle.topology_rules.specs.declared.fault.NetFault.{NetFault}
use Rattle.topology_rules.specs.declared.fault.NetFault.TheVariants as net_faults
use Rattle.topology_rules.specs.Faults.{IsTopology, Refuses as IsRefusedTopology}
use Rattle.negotiator.specs.declared.fault.RefineFault.{RefineFault}
use Rattle.negotiator.specs.declared.fault.RefineFault.TheVariants as refine_faults
use Rattle.negotiator.specs.CellCounts.{HasFewCellsTogether}
use Rattle.negotiator.specs.Refusals.{RefusesRules, IsRefinement, KeepsUsages}
use Rattle.merlin.specs.declared.reading.TheConstants.{TEXT_LIMIT}
use Rattle.merlin.specs.declared.refine.Refine.{Refine}
use Rattle.merlin.specs.declared.refine.RefineReply.{RefineReply}
use Rattle.merlin.specs.declared.refine.RefineReply.TheVariants.{UnreadParent, UnreadChild, UnreadTopology, WrongParent, WrongChild, TooManyCells, Wider, Refines}
use Rattle.refusal_text.specs.Refusals.{policy_fault_text, net_fault_text, check_fault_text}
use Rattle.refusal_text.specs.Wider.{IsWiderText}

-- Its words and its files.

pub record RefineForm : Type 0 where
  pub parent : List ℕ
  pub child : List ℕ
  pub topology : List ℕ

abbrev pub refine_form : Refine → RefineForm
refine_form words =
    record { parent = words.parent.now; child = words.child.now; topology = words.topology.now }

abbrev pub IsRefineForm : List (List ℕ) → RefineForm → Type 0
IsRefineForm words form =
    words ≡ codes "refine" ∷ form.parent ∷ form.child ∷ form.topology ∷ []

abbrev pub refine_files : RefineForm → List (List ℕ × ℕ)
refine_files form =
    (form.parent, TEXT_LIMIT) ∷ (form.child, TEXT_LIMIT) ∷ (form.topology, TEXT_LIMIT) ∷ []

-- What three texts stand for: two policies over names, and a network.
pub record ArePolicyTexts (parent_text child_text topology_text : List ℕ) (parent child : Policy)
    (net : Network) : Type 0 where
  pub of_parent : IsPolicyText parent_text parent
  pub of_child : IsPolicyText child_text child
  pub of_network : IsTopology topology_text net

-- Both policies keep all rules over the network, each for itself. Nothing is asked of the ends of
-- what they guarantee. Over the numbers of the network they are these.
pub record AreComparable (parent_text child_text topology_text : List ℕ) (net : Network)
    (parent child : NumberedPolicy) : Type 0 where
  pub raw_parent : Policy
  pub raw_child : Policy
  pub read : ArePolicyTexts parent_text child_text topology_text raw_parent raw_child net
  pub parent_keeps : KeepsAllRules net (network_symbols net) raw_parent
  pub child_keeps : KeepsAllRules net (network_symbols net) raw_child
  pub parent_is : parent ≡ numbered_policy net raw_parent
  pub child_is : child ≡ numbered_policy net raw_child

-- What three texts stand for can be compared, and this holds of it.
pub record HasPolicies (parent_text child_text topology_text : List ℕ)
    (Holds : Network → NumberedPolicy → NumberedPolicy → Type 0) : Type 0 where
  pub net : Network
  pub parent : NumberedPolicy
  pub child : NumberedPolicy
  pub comparable : AreComparable parent_text child_text topology_text net parent child
  pub holds : Holds net parent child

-- The child refines the parent, so that the traffic that it allows keeps the parent's terms.
pub record IsWholeRefinement (net : Network) (parent child : NumberedPolicy) : Type 0 where
  pub refinement : IsRefinement net parent child
  pub usages : KeepsUsages net parent child

-- the predicates of both policies together have too many cells
abbrev pub HasManyCellsTogether : Network → NumberedPolicy → NumberedPolicy → Type 0
HasManyCellsTogether net parent child = ¬ HasFewCellsTogether net parent child

-- The cells are few, and the first rule of refinement that fails is called so.
pub record IsWiderBy (text : List ℕ) (net : Network) (parent child : NumberedPolicy) : Type 0 where
  pub few : HasFewCellsTogether net parent child
  pub fault : RefineFault
  pub fails : RefusesRules net parent child (network_symbols net) fault
  pub named : IsWiderText net fault text

-- What each reply means of the three texts. Want of memory is no refusal.

-- why a text is no policy
abbrev pub IsUnreadPolicy : List ℕ → PolicyFault → Type 0
IsUnreadPolicy text fault = (fault ≢ faults.OutOfMemory) × IsRefusedPolicy fault text

-- which rule a policy breaks first
abbrev pub IsBrokenBy : Network → Policy → CheckFault → Type 0
IsBrokenBy net raw fault =
    (fault ≢ check_faults.OutOfMemory) × BreaksRule net (network_symbols net) raw fault

-- the parent is read, and the child is not
pub record HasUnreadChild (parent_text child_text : List ℕ) (fault : PolicyFault) : Type 0 where
  pub parent : Policy
  pub of_parent : IsPolicyText parent_text parent
  pub unread : IsUnreadPolicy child_text fault

-- both policies are read, and the topology is not
pub record HasUnreadTopology (parent_text child_text topology_text : List ℕ) (fault : NetFault)
    : Type 0 where
  pub parent : Policy
  pub child : Policy
  pub of_parent : IsPolicyText parent_text parent
  pub of_child : IsPolicyText child_text child
  pub known : fault ≢ net_faults.OutOfMemory
  pub refused : IsRefusedTopology fault topology_text

-- all are read, and the parent breaks a rule over the network
pub record HasWrongParent (parent_text child_text topology_text : List ℕ) (fault : CheckFault)
    : Type 0 where
  pub parent : Policy
  pub child : Policy
  pub net : Network
  pub read : ArePolicyTexts parent_text child_text topology_text parent child net
  pub broken : IsBrokenBy net parent fault

-- the parent keeps all rules, and the child breaks one
pub record HasWrongChild (parent_text child_text topology_text : List ℕ) (fault : CheckFault)
    : Type 0 where
  pub parent : Policy
  pub child : Policy
  pub net : Network
  pub read : ArePolicyTexts parent_text child_text topology_text parent child net
  pub keeps : KeepsAllRules net (network_symbols net) parent
  pub broken : IsBrokenBy net child fault

-- The texts are read in their order. Then the parent is asked by itself, the child by itself, and
-- the two together: their cells, and the rules of refinement.
abbrev pub Negotiates : List ℕ → List ℕ → List ℕ → RefineReply → Type 0
Negotiates parent child topology (UnreadParent fault) = IsUnreadPolicy parent fault
Negotiates parent child topology (UnreadChild fault) = HasUnreadChild parent child fault
Negotiates parent child topology (UnreadTopology fault) =
    HasUnreadTopology parent child topology fault
Negotiates parent child topology (WrongParent fault) = HasWrongParent parent child topology fault
Negotiates parent child topology (WrongChild fault) = HasWrongChild parent child topology fault
Negotiates parent child topology TooManyCells =
    HasPolicies parent child topology HasManyCellsTogether
Negotiates parent child topology (Wider text) =
    HasPolicies parent child topology (IsWiderBy text)
Negotiates parent child topology Refines = HasPolicies parent child topology IsWholeRefinement

abbrev pub IsRefineReply : List (List ℕ) → RefineReply → Type 0
IsRefineReply contents reply = (parent child topology : List ℕ)
    × (contents ≡ parent ∷ child ∷ topology ∷ []) × Negotiates parent child topology reply

-- Its lines and its status.

abbrev pub refine_lines : RefineReply → List (List ℕ)
refine_lines (UnreadParent fault) = line (codes "refused parent: " ++ policy_fault_text fault) ∷ []
refine_lines (UnreadChild fault) = line (codes "refused child: " ++ policy_fault_text fault) ∷ []
refine_lines (UnreadTopology fault) = line (codes "refused: " ++ net_fault_text fault) ∷ []
refine_lines (WrongParent fault) = line (codes "refused parent: " ++ check_fault_text fault) ∷ []
refine_lines (WrongChild fault) = line (codes "refused child: " ++ check_fault_text fault) ∷ []
refine_lines TooManyCells = line (codes "refused: more than 524288 cells") ∷ []
refine_lines (Wider text) = line text ∷ []
refine_lines Refines = line (codes "refines") ∷ []

abbrev pub refine_status : RefineReply → Status
refine_status (UnreadParent fault) = status.Refused
refine_status (UnreadChild fault) = status.Refused
refine_status (UnreadTopology fault) = status.Refused
refine_status (WrongParent fault) = status.Refused
refine_status (WrongChild fault) = status.Refused
refine_status TooManyCells = status.Refused
refine_status (Wider text) = status.RefineNo
refine_status Refines = status.Done

-- What is replied to a fault of refinement, over the network.

abbrev pub IsFaultOfCells : RefineFault → Type 0
IsFaultOfCells (refine_faults.TooManyCells count) = ⊤
IsFaultOfCells fault = ⊥

abbrev pub IsFaultReply : Network → RefineFault → RefineReply → Type 0
IsFaultReply net fault TooManyCells = IsFaultOfCells fault
IsFaultReply net fault (Wider text) = IsWiderText net fault text
IsFaultReply net fault reply = ⊥
