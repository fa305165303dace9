use Rattle.std.proofs.Common.{◌≡◌}
use Rattle.topology.specs.Symbols.{symbols_among}
use Rattle.topology.proofs.symbols.symbols_of.Given as goal

abbrev pub invariant-loop-loc : goal.invariant-loop-loc
invariant-loop-loc l = l.symbols.items ≡ symbols_among l.functions l.loc
