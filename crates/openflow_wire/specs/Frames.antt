-- Which frames a message matches.
use Rattle.std.specs.Prelude.{ℕ, ◌==◌, Bool, ◌&&◌, ◌||◌, List, Option, Some, None}
use Rattle.merlin_model.specs.Packets.{Packet}
use Rattle.merlin_model.specs.Machine.{Frame}
use Rattle.openflow_wire.specs.declared.numbers.TheConstants.{NO_VLAN, IPV4}
use Rattle.openflow_wire.specs.Fields.{number_at, wildcards_of, is_left_out}

-- the tag as a message has it
abbrev pub tag_number : Option ℕ → ℕ
tag_number None = NO_VLAN
tag_number (Some tag) = tag

-- the field is left out of the match, or holds the frame's number
abbrev pub agrees_at : List ℕ → ℕ → ℕ → ℕ → ℕ → Bool
agrees_at message bit at width n = is_left_out bit (wildcards_of message) || (number_at message at width == n)

abbrev pub ethernet_matches : List ℕ → ℕ → Option ℕ → Packet → Bool
ethernet_matches message port tag packet =
    agrees_at message 0 12 2 port && agrees_at message 2 14 6 packet.eth_src && agrees_at message 3 20 6 packet.eth_dst
    && agrees_at message 1 26 2 (tag_number tag) && agrees_at message 4 30 2 IPV4

abbrev pub network_matches : List ℕ → Packet → Bool
network_matches message packet =
    agrees_at message 5 33 1 packet.proto && agrees_at message 13 36 4 packet.ip_src && agrees_at message 19 40 4 packet.ip_dst
    && agrees_at message 6 44 2 packet.sport && agrees_at message 7 46 2 packet.dport

-- Every field is left out, or holds the number of an IPv4 frame with this port, tag and packet.
abbrev pub matches_frame : List ℕ → ℕ → Option ℕ → Packet → Bool
matches_frame message port tag packet = ethernet_matches message port tag packet && network_matches message packet

-- the same of a frame of the machine
abbrev pub message_matches : List ℕ → Frame → Bool
message_matches message frame = matches_frame message frame.port frame.tag frame.packet
