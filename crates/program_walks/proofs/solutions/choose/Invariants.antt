use Rattle.std.proofs.Common.{◌≡◌, take, length}
use Rattle.program_walks.specs.Marks.{with_more}
use Rattle.program_walks.proofs.solutions.choose.Given as goal

abbrev pub invariant-loop-number : goal.invariant-loop-number
invariant-loop-number l = (l.point ≡ with_more l.fn.point (take l.number-index l.path)) × (length l.point ≡ length l.fn.point)
