use Rattle.std.proofs.Common.{◌≡◌, drop}
use Rattle.std.specs.List.{list_any}
use Rattle.path_automaton.specs.SeenSymbols.{mentions}
use Rattle.path_automaton.proofs.classes.+mentions.Given as goal

abbrev pub invariant-loop-path : goal.invariant-loop-path
invariant-loop-path l = list_any (λ path. mentions path l.symbol) l.path-items ≡ list_any (λ path. mentions path l.symbol) (drop l.path-index l.path-items)
