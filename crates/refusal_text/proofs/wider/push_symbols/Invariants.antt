use Rattle.std.proofs.Common.{◌≡◌, ◌++◌, map, take}
use Rattle.config_text.specs.Words.{spaced}
use Rattle.config_text.specs.Result.{symbol_text}
use Rattle.refusal_text.proofs.wider.push_symbols.Given as goal

abbrev pub invariant-loop-symbol : goal.invariant-loop-symbol
invariant-loop-symbol l = l.bytes.items ≡ l.fn.bytes.items ++ spaced (map (symbol_text l.net) (take l.symbol-index l.word))
