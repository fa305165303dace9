use Rattle.std.proofs.Common.{length}
use Rattle.config_lines.proofs.SymbolTexts.{AreReadTo}
use Rattle.config_lines.proofs.walks.read_symbols.Given as goal

abbrev pub invariant-symbols : goal.invariant-symbols
invariant-symbols l = AreReadTo l.net l.fn.text l.symbols l.rest

abbrev pub decreases-symbols : goal.decreases-symbols
decreases-symbols l = length l.rest
