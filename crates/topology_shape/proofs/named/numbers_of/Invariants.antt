use Rattle.std.proofs.Common.{take}
use Rattle.topology_shape.specs.Format.{location_names}
use Rattle.topology_shape.specs.Numbering.{IsNumbering}
use Rattle.topology_shape.proofs.named.numbers_of.Given as goal

abbrev pub invariant-loop-number : goal.invariant-loop-number
invariant-loop-number l = IsNumbering l.numbers.entries (location_names (take l.number l.locations))
