-- The fields of a message that changes a flow table, as OpenFlow 1.0.0 lays them out. All numbers are big-endian.
use Rattle.std.specs.Prelude.{ℕ, ◌+◌, ◌/◌, ◌%◌, ◌^◌, ◌==◌, nat_le, Bool, true, ◌&&◌, ◌||◌, List, length, drop}
use Rattle.std.specs.List.{flat_map}
use Rattle.byteorder.specs.Endian.{big_number, big_bytes}
use Rattle.openflow_wire.specs.declared.numbers.TheConstants.{GREATEST_PORT, MAX_VLAN, MAX_QUEUE_ID, NO_VLAN, IPV4}
use Rattle.openflow_wire.specs.declared.numbers.Number.{Number}
use Rattle.openflow_wire.specs.declared.numbers.Number.TheVariants.{Byte, Short, Word, Mac, Long}
use Rattle.openflow_wire.specs.declared.layout.Taken.{Taken}
use Rattle.openflow_wire.specs.declared.layout.Taken.TheVariants.{Any, Only, AtMost, Length, Wildcards, InPort, VlanId, EtherType}

abbrev pub number_bytes : Number → List ℕ
number_bytes (Byte n) = big_bytes 1 n
number_bytes (Short n) = big_bytes 2 n
number_bytes (Word n) = big_bytes 4 n
number_bytes (Mac n) = big_bytes 6 n
number_bytes (Long n) = big_bytes 8 n

-- numbers one behind the other, each in its width
abbrev pub bytes_of : List Number → List ℕ
bytes_of numbers = flat_map number_bytes numbers

-- the number in so many bytes from a place on
abbrev pub number_at : List ℕ → ℕ → ℕ → ℕ
number_at message at width = big_number width (drop at message)

-- The wildcards: a number of 32 bits, bit 0 the lowest. A bit that is set leaves its field out of the match; for the two IPv4
-- addresses it is the highest bit of a count of six, how many bits of the address are left out, and 32 or more leave out all.

abbrev pub wildcards_of : List ℕ → ℕ
wildcards_of message = number_at message 8 4

abbrev pub is_left_out : ℕ → ℕ → Bool
is_left_out bit wildcards = wildcards / 2 ^ bit % 2 == 1

-- the count of six bits from a bit on
abbrev pub count_from : ℕ → ℕ → ℕ
count_from bit wildcards = wildcards / 2 ^ bit % 2 ^ 6

-- an address is wholly in the match, or not at all
abbrev pub is_count : ℕ → Bool
is_count n = (n == 0) || nat_le 32 n

-- bits 20 and 21, which leave out two fields that no rule names, are set, and none above
abbrev pub are_wildcards : ℕ → Bool
are_wildcards n = is_count (count_from 8 n) && is_count (count_from 14 n) && (n / 2 ^ 20 == 3)

abbrev pub is_port : ℕ → Bool
is_port n = nat_le 1 n && nat_le n GREATEST_PORT

abbrev pub is_vlan_id : ℕ → Bool
is_vlan_id n = nat_le 1 n && nat_le n MAX_VLAN

abbrev pub is_queue_id : ℕ → Bool
is_queue_id n = nat_le 1 n && nat_le n MAX_QUEUE_ID

-- Which numbers a field may hold in a message.
abbrev pub may_hold : Taken → List ℕ → ℕ → Bool
may_hold Any message n = true
may_hold (Only wanted) message n = n == wanted
may_hold (AtMost limit) message n = nat_le n limit
may_hold Length message n = n == length message
may_hold Wildcards message n = are_wildcards n
may_hold InPort message n = is_left_out 0 (wildcards_of message) || is_port n
may_hold VlanId message n = is_left_out 1 (wildcards_of message) || (is_vlan_id n || (n == NO_VLAN))
may_hold EtherType message n = is_left_out 4 (wildcards_of message) || (n == IPV4)

-- the field is there, and holds what it may hold
abbrev pub is_taken : List ℕ → ℕ × ℕ × Taken → Bool
is_taken message (at, width, taken) = nat_le (at + width) (length message) && may_hold taken message (number_at message at width)
