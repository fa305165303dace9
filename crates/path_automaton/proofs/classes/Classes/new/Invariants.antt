use Rattle.std.proofs.Common.{◌≡◌, map, take}
use Rattle.path_automaton.specs.SeenSymbols.{seen_by}
use Rattle.path_automaton.specs.Classes.{AreClasses}
use Rattle.path_automaton.proofs.classes.Classes.new.Given as goal

abbrev pub invariant-loop-symbol : goal.invariant-loop-symbol
invariant-loop-symbol l = AreClasses l.path (take l.symbol-index l.symbols) (record { numbers = l.numbers; firsts = l.firsts }) × (l.kinds ≡ map (seen_by l.path) l.firsts)
