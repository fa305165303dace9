-- Which message a rule has, and which rule a message has.
use Rattle.std.specs.Prelude.{ℕ, ◌+◌, ◌*◌, ◌≡◌, ◌==◌, Bool, true, false, not, ◌&&◌, List, [], ◌∷◌, ◌++◌, length, take, drop, Option, Some, None, unwrap_or, option_map, is_some, if◌then◌else◌}
use Rattle.std.specs.List.{find, flat_map}
use Rattle.merlin_model.specs.declared.config.Out.{Out}
use Rattle.merlin_model.specs.declared.config.Out.TheVariants.{InPort, Port}
use Rattle.merlin_model.specs.declared.config.Action.{Action}
use Rattle.merlin_model.specs.declared.config.Action.TheVariants.{SetVlan, StripVlan, Output, Enqueue}
use Rattle.merlin_model.specs.declared.config.Vlan.{Vlan}
use Rattle.merlin_model.specs.declared.config.Vlan.TheVariants.{Untagged, Tag}
use Rattle.merlin_model.specs.declared.config.Match.{Match}
use Rattle.merlin_model.specs.declared.config.Rule.{Rule}
use Rattle.openflow_wire.specs.declared.numbers.TheConstants.{IN_PORT, NO_VLAN, IPV4}
use Rattle.openflow_wire.specs.declared.numbers.Number.{Number}
use Rattle.openflow_wire.specs.declared.numbers.Number.TheVariants.{Byte, Short, Word, Mac, Long}
use Rattle.openflow_wire.specs.declared.layout.Taken.{Taken}
use Rattle.openflow_wire.specs.declared.layout.TheConstants.{FIELDS}
use Rattle.openflow_wire.specs.Fields.{bytes_of, number_at, wildcards_of, is_left_out, is_taken, is_port, is_vlan_id, is_queue_id}

-- From a rule to its message.

abbrev pub out_number : Out → ℕ
out_number InPort = IN_PORT
out_number (Port n) = n

-- the number of the action, its length in bytes, and what it needs
abbrev pub action_numbers : Action → List Number
action_numbers (SetVlan tag) = Short 1 ∷ Short 8 ∷ Short tag ∷ Short 0 ∷ []
action_numbers StripVlan = Short 3 ∷ Short 8 ∷ Word 0 ∷ []
action_numbers (Output out) = Short 0 ∷ Short 8 ∷ Short (out_number out) ∷ Short 0 ∷ []
action_numbers (Enqueue out queue) = Short 11 ∷ Short 16 ∷ Short (out_number out) ∷ Mac 0 ∷ Word queue ∷ []

abbrev pub actions_bytes : List Action → List ℕ
actions_bytes actions = bytes_of (flat_map action_numbers actions)

-- The bits of the wildcards, the lowest first: those of the fields that are not named, the highest of the six for an address,
-- and the two that are always set.
abbrev pub wildcard_bits : Match → List Bool
wildcard_bits m =
    not (is_some m.in_port) ∷ not (is_some m.dl_vlan) ∷ not (is_some m.dl_src) ∷ not (is_some m.dl_dst)
    ∷ not m.dl_type ∷ not (is_some m.nw_proto) ∷ not (is_some m.tp_src) ∷ not (is_some m.tp_dst)
    ∷ false ∷ false ∷ false ∷ false ∷ false ∷ not (is_some m.nw_src)
    ∷ false ∷ false ∷ false ∷ false ∷ false ∷ not (is_some m.nw_dst) ∷ true ∷ true ∷ []

abbrev pub bit_number : Bool → ℕ
bit_number true = 1
bit_number false = 0

abbrev pub number_of_bits : List Bool → ℕ
number_of_bits [] = 0
number_of_bits (bit ∷ bits) = bit_number bit + 2 * number_of_bits bits

abbrev pub match_wildcards : Match → ℕ
match_wildcards m = number_of_bits (wildcard_bits m)

abbrev pub vlan_number : Vlan → ℕ
vlan_number Untagged = NO_VLAN
vlan_number (Tag n) = n

-- the value of a field, 0 where it is not named
abbrev pub named : Option ℕ → ℕ
named value = unwrap_or value 0

abbrev pub ether_type : Bool → ℕ
ether_type true = IPV4
ether_type false = 0

-- the numbers of a match, from the wildcards on
abbrev pub match_numbers : Match → List Number
match_numbers m =
    Word (match_wildcards m) ∷ Short (named m.in_port) ∷ Mac (named m.dl_src) ∷ Mac (named m.dl_dst)
    ∷ Short (named (option_map vlan_number m.dl_vlan)) ∷ Byte 0 ∷ Byte 0 ∷ Short (ether_type m.dl_type) ∷ Byte 0
    ∷ Byte (named m.nw_proto) ∷ Short 0 ∷ Word (named m.nw_src) ∷ Word (named m.nw_dst)
    ∷ Short (named m.tp_src) ∷ Short (named m.tp_dst) ∷ []

-- the numbers in front of the actions: the length is that of the whole, no cookie, a rule that is added and stays
abbrev pub header_numbers : Rule → ℕ → ℕ → List Number
header_numbers rule xid bytes =
    Byte 1 ∷ Byte 14 ∷ Short bytes ∷ Word xid ∷ match_numbers rule.fits
    ++ Long 0 ∷ Short 0 ∷ Short 0 ∷ Short 0 ∷ Short rule.priority ∷ Word 4294967295 ∷ Short 65535 ∷ Short 0 ∷ []

abbrev pub header_bytes : Rule → ℕ → ℕ → List ℕ
header_bytes rule xid bytes = bytes_of (header_numbers rule xid bytes)

-- the message of a rule, under a number that the sender chooses
abbrev pub message_of : Rule → ℕ → List ℕ
message_of rule xid =
    header_bytes rule xid (72 + length (actions_bytes rule.actions)) ++ actions_bytes rule.actions

-- From a message to its rule.

abbrev pub out_of : ℕ → Option Out
out_of n = if n == IN_PORT then Some InPort else (if is_port n then Some (Port n) else None)

-- an action of this kind, with its own length behind the kind, and no more
abbrev pub is_action : ℕ → ℕ → List ℕ → Bool
is_action kind size bytes = (length bytes == size) && (number_at bytes 0 2 == kind) && (number_at bytes 2 2 == size)

-- the action that changes the tag
abbrev pub change_of : List ℕ → Option Action
change_of bytes =
    if is_action 1 8 bytes && is_vlan_id (number_at bytes 4 2) then Some (SetVlan (number_at bytes 4 2))
    else (if is_action 3 8 bytes then Some StripVlan else None)

abbrev pub enqueue_of : List ℕ → Option Action
enqueue_of bytes =
    if is_queue_id (number_at bytes 12 4) then option_map (λ out. Enqueue out (number_at bytes 12 4)) (out_of (number_at bytes 4 2))
    else None

-- the action that sends the frame
abbrev pub send_of : List ℕ → Option Action
send_of bytes =
    if is_action 0 8 bytes then option_map Output (out_of (number_at bytes 4 2))
    else (if is_action 11 16 bytes then enqueue_of bytes else None)

abbrev pub actions_after : Option Action → List ℕ → Option (List Action)
actions_after None bytes = option_map (λ send. send ∷ []) (send_of bytes)
actions_after (Some change) bytes = option_map (λ send. change ∷ send ∷ []) (send_of (drop 8 bytes))

-- no action, or one that sends, behind one at most that changes the tag
abbrev pub actions_of : List ℕ → Option (List Action)
actions_of [] = Some []
actions_of (b ∷ bytes) = actions_after (change_of (take 8 (b ∷ bytes))) (b ∷ bytes)

-- the first byte of the first of some fields that is missing or holds what it may not
abbrev pub first_fault : List ℕ → List (ℕ × ℕ × Taken) → Option ℕ
first_fault message fields = option_map (λ field. field.0) (find (λ field. not (is_taken message field)) fields)

abbrev pub fault_behind : List ℕ → Option ℕ → Option ℕ
fault_behind message (Some at) = Some at
fault_behind message None = if is_some (actions_of (drop 72 message)) then None else Some 72

-- The first byte of the first field that is missing or holds what it may not. All actions together are one field.
abbrev pub message_fault : List ℕ → Option ℕ
message_fault message = fault_behind message (first_fault message FIELDS)

-- a field of the match, which a bit of the wildcards leaves out
abbrev pub unless_left_out : {X : Type 0} → List ℕ → ℕ → X → Option X
unless_left_out message bit value = if is_left_out bit (wildcards_of message) then None else Some value

abbrev pub vlan_of : ℕ → Vlan
vlan_of n = if n == NO_VLAN then Untagged else Tag n

abbrev pub message_match : List ℕ → Match
message_match message = record {
  in_port = unless_left_out message 0 (number_at message 12 2);
  dl_src = unless_left_out message 2 (number_at message 14 6);
  dl_dst = unless_left_out message 3 (number_at message 20 6);
  dl_vlan = unless_left_out message 1 (vlan_of (number_at message 26 2));
  dl_type = not (is_left_out 4 (wildcards_of message));
  nw_proto = unless_left_out message 5 (number_at message 33 1);
  nw_src = unless_left_out message 13 (number_at message 36 4);
  nw_dst = unless_left_out message 19 (number_at message 40 4);
  tp_src = unless_left_out message 6 (number_at message 44 2);
  tp_dst = unless_left_out message 7 (number_at message 46 2);
}

-- The bytes are a message, and this is its rule, at a location that the reader knows, and its number.
pub record IsMessage (message : List ℕ) (loc : ℕ) (rule : Rule) (xid : ℕ) : Type 0 where
  pub taken : message_fault message ≡ None
  pub place : rule.loc ≡ loc
  pub priority : rule.priority ≡ number_at message 62 2
  pub fits : rule.fits ≡ message_match message
  pub actions : actions_of (drop 72 message) ≡ Some rule.actions
  pub number : xid ≡ number_at message 4 4
