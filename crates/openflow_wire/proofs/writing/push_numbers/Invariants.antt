use Rattle.std.proofs.Common.{◌≡◌, ◌++◌, take}
use Rattle.openflow_wire.specs.Fields.{bytes_of}
use Rattle.openflow_wire.proofs.writing.push_numbers.Given as goal

abbrev pub invariant-loop-number : goal.invariant-loop-number
invariant-loop-number l = l.bytes.items ≡ l.initial.bytes.items ++ bytes_of (take l.number-index l.numbers)
