-- The command `wire`.
use Rattle.std.specs.Prelude.{◌≡◌, ◌++◌, ◌+◌, ◌==◌, ℕ, ⊤, List, [], ◌∷◌, filter, codes}
use Rattle.std.specs.List.{All}
use Rattle.hex.specs.Hex.{encode_lower}
use Rattle.merlin_base.specs.declared.status.Status.{Status}
use Rattle.merlin_base.specs.declared.status.Status.TheVariants as status
use Rattle.merlin_model.specs.declared.config.Rule.{Rule}
use Rattle.merlin_model.specs.Networks.{Network, IsSwitch}
use Rattle.config_text.specs.Words.{line}
use Rattle.config_read.specs.declared.result.ResultText.{ResultText}
use Rattle.openflow_wire.specs.Messages.{message_of}
use Rattle.openflow_wire.specs.Rules.{IsRule}
use Rattle.merlin.specs.Inputs.{IsWrongTopology, HasWrongResult, AreNetworkAndResult, BearsName, wrong_topology_lines, wrong_result_lines}
use Rattle.merlin.specs.declared.reading.TheConstants.{TEXT_LIMIT, RESULT_LIMIT}
use Rattle.merlin.specs.declared.wire.Wire.{Wire}
use Rattle.merlin.specs.declared.wire.WireReply.{WireReply}
use Rattle.merlin.specs.declared.wire.WireReply.TheVariants.{BadTopology, BadResult, UnknownSwitch, Written}

-- Its words and its files.

pub record WireForm : Type 0 where
  pub topology : List ℕ
  pub result : List ℕ
  pub switch : List ℕ

abbrev pub wire_form : Wire → WireForm
wire_form words = record {
  topology = words.topology.now;
  result = words.result.now;
  switch = words.switch.now;
}

abbrev pub IsWireForm : List (List ℕ) → WireForm → Type 0
IsWireForm words form =
    words ≡ codes "wire" ∷ form.topology ∷ form.result ∷ form.switch ∷ []

abbrev pub wire_files : WireForm → List (List ℕ × ℕ)
wire_files form = (form.topology, TEXT_LIMIT) ∷ (form.result, RESULT_LIMIT) ∷ []

-- The messages of a switch.

-- a switch of the network bears the name
abbrev pub IsSwitchNamed : Network → List ℕ → ℕ → Type 0
IsSwitchNamed net name switch = BearsName net name switch × IsSwitch net switch

-- the rules at a switch, in their order
abbrev pub rules_at : ℕ → List Rule → List Rule
rules_at switch rules = filter (λ rule. rule.loc == switch) rules

-- the message of a rule in hexadecimal digits, under a number
abbrev pub message_line : Rule → ℕ → List ℕ
message_line rule xid = line (encode_lower (message_of rule xid))

-- a line for each rule, numbered from this number on
abbrev pub message_lines : ℕ → List Rule → List (List ℕ)
message_lines xid [] = []
message_lines xid (rule ∷ rules) = message_line rule xid ∷ message_lines (xid + 1) rules

-- What each reply means of the topology, the result and the words.

-- No switch of the network bears the name, which is the word for the switch.
pub record HasUnknownSwitch (form : WireForm) (topology result name : List ℕ) : Type 0 where
  pub net : Network
  pub read : ResultText
  pub texts : AreNetworkAndResult topology result net read
  pub named : name ≡ form.switch
  pub none : (switch : ℕ) → ¬ IsSwitchNamed net form.switch switch

-- The lines are the messages of the result's rules at the switch, in order, numbered from 1.
pub record HasMessages (form : WireForm) (topology result : List ℕ) (lines : List (List ℕ))
    : Type 0 where
  pub net : Network
  pub read : ResultText
  pub texts : AreNetworkAndResult topology result net read
  pub switch : ℕ
  pub is_switch : IsSwitchNamed net form.switch switch
  pub written : lines ≡ message_lines 1 (rules_at switch read.config.rules)

-- The switch bears the name, and these are all rules of the result.
pub record HasRulesAtSwitch (form : WireForm) (topology result : List ℕ) (switch : ℕ) (rules : List Rule)
    : Type 0 where
  pub net : Network
  pub read : ResultText
  pub texts : AreNetworkAndResult topology result net read
  pub is_switch : IsSwitchNamed net form.switch switch
  pub are : rules ≡ read.config.rules

-- The topology is looked at first, then the result, then the word for the switch.
abbrev pub Wires : WireForm → List ℕ → List ℕ → WireReply → Type 0
Wires form topology result (BadTopology fault) = IsWrongTopology topology fault
Wires form topology result (BadResult at) = HasWrongResult topology result at
Wires form topology result (UnknownSwitch name) = HasUnknownSwitch form topology result name
Wires form topology result (Written switch rules) =
    HasRulesAtSwitch form topology result switch rules

abbrev pub IsWireReply : WireForm → List (List ℕ) → WireReply → Type 0
IsWireReply form contents reply = (topology result : List ℕ)
    × (contents ≡ topology ∷ result ∷ []) × Wires form topology result reply

-- Its lines and its status.

abbrev pub unknown_switch_lines : List ℕ → List (List ℕ)
unknown_switch_lines name = line (codes "refused: unknown switch " ++ name) ∷ []

abbrev pub wire_lines : WireReply → List (List ℕ)
wire_lines (BadTopology fault) = wrong_topology_lines fault
wire_lines (BadResult at) = wrong_result_lines at
wire_lines (UnknownSwitch name) = unknown_switch_lines name
wire_lines (Written switch rules) = message_lines 1 (rules_at switch rules)

-- each rule of the reply has a message
abbrev pub HaveMessages : WireReply → Type 0
HaveMessages (BadTopology fault) = ⊤
HaveMessages (BadResult at) = ⊤
HaveMessages (UnknownSwitch name) = ⊤
HaveMessages (Written switch rules) = All IsRule rules

abbrev pub wire_status : WireReply → Status
wire_status (BadTopology fault) = status.Refused
wire_status (BadResult at) = status.Refused
wire_status (UnknownSwitch name) = status.Refused
wire_status (Written switch rules) = status.Done
