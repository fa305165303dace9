use Rattle.std.proofs.Common.{◌≡◌, ◌++◌, take}
use Rattle.topology.proofs.Listing.{with_functions}
use Rattle.topology.proofs.symbols.push_symbols_at.Given as goal

abbrev pub invariant-loop-number : goal.invariant-loop-number
invariant-loop-number l = l.symbols.items ≡ l.initial.symbols.items ++ with_functions (take l.number l.functions) l.loc
