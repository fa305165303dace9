use Rattle.std.proofs.Common.{◌≡◌, take}
use Rattle.program_walks.specs.Solutions.{word_over}
use Rattle.program_walks.proofs.assignments.word_along.Given as goal

abbrev pub invariant-loop-number : goal.invariant-loop-number
invariant-loop-number l = l.walk ≡ word_over l.variables l.symbols (take l.number-index l.path)
