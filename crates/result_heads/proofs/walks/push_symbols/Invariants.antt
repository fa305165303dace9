use Rattle.std.proofs.Common.{◌≡◌, ◌++◌, length, map}
use Rattle.std.specs.List.{AllByRecursion}
use Rattle.merlin_model.specs.Words.{IsSymbol}
use Rattle.config_text.specs.Words.{spaced}
use Rattle.config_text.specs.Result.{symbol_text}
use Rattle.result_heads.proofs.walks.push_symbols.Given as goal

abbrev pub invariant-symbols : goal.invariant-symbols
invariant-symbols l = record {
  written : l.line.items ++ spaced (map (symbol_text l.net) l.rest) ≡ l.fn.line.items ++ spaced (map (symbol_text l.net) l.walk);
  symbols : AllByRecursion (IsSymbol l.net) l.rest;
}

abbrev pub decreases-symbols : goal.decreases-symbols
decreases-symbols l = length l.rest
