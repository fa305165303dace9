use Rattle.std.proofs.Common.{◌≡◌, length, take}
use Rattle.program_walks.proofs.Marked.{TakesTo}
use Rattle.program_walks.proofs.marking.mark_symbols.Given as goal

abbrev pub invariant-loop-symbol : goal.invariant-loop-symbol
invariant-loop-symbol l = TakesTo l.variables l.symbols l.flow (take l.symbol-index l.walk) l.fn.point l.point l.vertex × (length l.point ≡ length l.variables)
