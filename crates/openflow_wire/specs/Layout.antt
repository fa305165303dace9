-- The form of the table of fields, and what a fault says.
use Rattle.std.specs.Prelude.{ℕ, ◌+◌, ◌≡◌, nat_le, Bool, true, false, not, ◌&&◌, ◌||◌, List, Some, ⊤}
use Rattle.openflow_wire.specs.declared.layout.Taken.{Taken}
use Rattle.openflow_wire.specs.declared.layout.Taken.TheVariants.{Any, Only, AtMost, Length, Wildcards, InPort, VlanId, EtherType}
use Rattle.openflow_wire.specs.declared.reading.WireFault.{WireFault}
use Rattle.openflow_wire.specs.declared.reading.WireFault.TheVariants.{BadMessage, OutOfMemory}
use Rattle.openflow_wire.specs.Messages.{message_fault}

abbrev pub asks_wildcards : Taken → Bool
asks_wildcards InPort = true
asks_wildcards VlanId = true
asks_wildcards EtherType = true
asks_wildcards Any = false
asks_wildcards (Only n) = false
asks_wildcards (AtMost n) = false
asks_wildcards Length = false
asks_wildcards Wildcards = false

-- a number of eight bytes at most, in front of the actions; the wildcards stand in front of what asks for them
abbrev pub has_form : ℕ × ℕ × Taken → Bool
has_form (at, width, taken) =
    nat_le 1 width && nat_le width 8 && nat_le (at + width) 72 && (not (asks_wildcards taken) || nat_le 12 at)

-- want of memory has no cause in the bytes
abbrev pub IsWireFault : List ℕ → WireFault → Type 0
IsWireFault message (BadMessage at) = message_fault message ≡ Some at
IsWireFault message OutOfMemory = ⊤
