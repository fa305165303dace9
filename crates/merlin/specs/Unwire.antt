-- The command `unwire`.
use Rattle.std.specs.Prelude.{◌≡◌, ◌≢◌, ◌++◌, ◌+◌, ℕ, ⊤, List, [], ◌∷◌, length, Ok, Some, codes}
use Rattle.std.specs.List.{AllZip, flat_map}
use Rattle.std.specs.Fmt.{decimal}
use Rattle.hex.specs.Hex.{decode_of}
use Rattle.merlin_base.specs.Lexemes.{Lacks}
use Rattle.merlin_base.specs.declared.status.Status.{Status}
use Rattle.merlin_base.specs.declared.status.Status.TheVariants as status
use Rattle.merlin_model.specs.declared.config.Rule.{Rule}
use Rattle.merlin_model.specs.declared.config.Config.{Config}
use Rattle.merlin_model.specs.Networks.{Network}
use Rattle.config_text.specs.Words.{line}
use Rattle.config_text.specs.Lines.{rule_lines, config_lines, IsConfigOver}
use Rattle.openflow_wire.specs.Messages.{message_fault, IsMessage}
use Rattle.topology_rules.specs.Faults.{IsTopology}
use Rattle.merlin.specs.Inputs.{IsWrongTopology, wrong_topology_lines}
use Rattle.merlin.specs.Wire.{IsSwitchNamed, unknown_switch_lines}
use Rattle.merlin.specs.declared.reading.TheConstants.{TEXT_LIMIT, RESULT_LIMIT}
use Rattle.merlin.specs.declared.unwire.Unwire.{Unwire}
use Rattle.merlin.specs.declared.unwire.UnwireReply.{UnwireReply}
use Rattle.merlin.specs.declared.unwire.UnwireReply.TheVariants.{BadTopology, UnknownSwitch, NoDigits, BadMessage, Written}

-- Its words and its files.

pub record UnwireForm : Type 0 where
  pub topology : List ℕ
  pub switch : List ℕ
  pub messages : List ℕ

abbrev pub unwire_form : Unwire → UnwireForm
unwire_form words = record {
  topology = words.topology.now;
  switch = words.switch.now;
  messages = words.messages.now;
}

abbrev pub IsUnwireForm : List (List ℕ) → UnwireForm → Type 0
IsUnwireForm words form =
    words ≡ codes "unwire" ∷ form.topology ∷ form.switch ∷ form.messages ∷ []

abbrev pub unwire_files : UnwireForm → List (List ℕ × ℕ)
unwire_files form = (form.topology, TEXT_LIMIT) ∷ (form.messages, RESULT_LIMIT) ∷ []

-- Lines of messages.

-- two hexadecimal digits, of either case, for each byte of the message of this rule
pub record IsLineOfRule (switch : ℕ) (digits : List ℕ) (rule : Rule) : Type 0 where
  pub message : List ℕ
  pub stand_for : decode_of digits ≡ Ok message
  pub xid : ℕ
  pub is_message : IsMessage message switch rule xid

-- The text begins with lines of the messages of these rules, and this is left behind them.
pub record BeginsWithMessages (switch : ℕ) (text : List ℕ) (rules : List Rule) (rest : List ℕ)
    : Type 0 where
  pub digits : List (List ℕ)
  pub each : AllZip (IsLineOfRule switch) digits rules
  pub whole : text ≡ flat_map line digits ++ rest

-- Behind these rules something follows, and what stands there before a newline is no even number of
-- hexadecimal digits, or there is no newline.
pub record HasNoDigits (switch : ℕ) (text : List ℕ) (number : ℕ) : Type 0 where
  pub rules : List Rule
  pub rest : List ℕ
  pub before : BeginsWithMessages switch text rules rest
  pub some : rest ≢ []
  pub none : (digits message more : List ℕ) → Lacks 10 digits → rest ≡ digits ++ 10 ∷ more →
      ¬ (decode_of digits ≡ Ok message)
  pub counted : number ≡ length rules + 1

-- Behind these rules a line follows whose bytes are no message, by the field at this place.
pub record HasNoMessage (switch : ℕ) (text : List ℕ) (number at : ℕ) : Type 0 where
  pub rules : List Rule
  pub digits : List ℕ
  pub more : List ℕ
  pub before : BeginsWithMessages switch text rules (digits ++ 10 ∷ more)
  pub message : List ℕ
  pub stand_for : decode_of digits ≡ Ok message
  pub wrong : message_fault message ≡ Some at
  pub counted : number ≡ length rules + 1

-- What each reply means of the topology, the messages and the words.

-- the topology is a network in which no switch bears the name, which is the word for the switch
pub record HasNoSwitch (form : UnwireForm) (topology name : List ℕ) : Type 0 where
  pub net : Network
  pub is_network : IsTopology topology net
  pub named : name ≡ form.switch
  pub none : (switch : ℕ) → ¬ IsSwitchNamed net form.switch switch

-- the topology is a network with the switch of the word, and of the two this is so
pub record HasSwitch (form : UnwireForm) (topology : List ℕ) (Holds : Network → ℕ → Type 0)
    : Type 0 where
  pub net : Network
  pub is_network : IsTopology topology net
  pub switch : ℕ
  pub is_switch : IsSwitchNamed net form.switch switch
  pub holds : Holds net switch

-- all bytes are lines of messages, and the lines are those of their rules
pub record HasRules (messages : List ℕ) (lines : List (List ℕ)) (net : Network) (switch : ℕ)
    : Type 0 where
  pub rules : List Rule
  pub all : BeginsWithMessages switch messages rules []
  pub written : lines ≡ rule_lines net rules

-- a configuration of rules alone
abbrev pub rules_alone : List Rule → Config
rules_alone rules = record { rules = rules; processes = []; queues = []; hosts = [] }

-- all bytes are lines of messages, and the configuration over the same network is that of their rules
pub record HasConfigOf (messages : List ℕ) (over : Network) (config : Config) (net : Network)
    (switch : ℕ) : Type 0 where
  pub rules : List Rule
  pub all : BeginsWithMessages switch messages rules []
  pub over_is : over ≡ net
  pub config_is : config ≡ rules_alone rules

-- The topology is looked at first, then the word for the switch, then the messages.
abbrev pub Unwires : UnwireForm → List ℕ → List ℕ → UnwireReply → Type 0
Unwires form topology messages (BadTopology fault) = IsWrongTopology topology fault
Unwires form topology messages (UnknownSwitch name) = HasNoSwitch form topology name
Unwires form topology messages (NoDigits number) =
    HasSwitch form topology (λ net switch. HasNoDigits switch messages number)
Unwires form topology messages (BadMessage number at) =
    HasSwitch form topology (λ net switch. HasNoMessage switch messages number at)
Unwires form topology messages (Written over config) =
    HasSwitch form topology (HasConfigOf messages over config)

abbrev pub IsUnwireReply : UnwireForm → List (List ℕ) → UnwireReply → Type 0
IsUnwireReply form contents reply = (topology messages : List ℕ)
    × (contents ≡ topology ∷ messages ∷ []) × Unwires form topology messages reply

-- Its lines and its status.

abbrev pub no_digits_text : ℕ → List ℕ
no_digits_text number = codes "refused: message " ++ (decimal number ++ codes " hex")

abbrev pub bad_message_text : ℕ → ℕ → List ℕ
bad_message_text number at =
    codes "refused: message " ++ (decimal number ++ (codes " at " ++ decimal at))

abbrev pub unwire_lines : UnwireReply → List (List ℕ)
unwire_lines (BadTopology fault) = wrong_topology_lines fault
unwire_lines (UnknownSwitch name) = unknown_switch_lines name
unwire_lines (NoDigits number) = line (no_digits_text number) ∷ []
unwire_lines (BadMessage number at) = line (bad_message_text number at) ∷ []
unwire_lines (Written net config) = config_lines net config

-- the configuration of the reply names locations of its network
abbrev pub HasConfigOver : UnwireReply → Type 0
HasConfigOver (BadTopology fault) = ⊤
HasConfigOver (UnknownSwitch name) = ⊤
HasConfigOver (NoDigits number) = ⊤
HasConfigOver (BadMessage number at) = ⊤
HasConfigOver (Written net config) = IsConfigOver net config

abbrev pub unwire_status : UnwireReply → Status
unwire_status (BadTopology fault) = status.Refused
unwire_status (UnknownSwitch name) = status.Refused
unwire_status (NoDigits number) = status.Refused
unwire_status (BadMessage number at) = status.Refused
unwire_status (Written net config) = status.Done
