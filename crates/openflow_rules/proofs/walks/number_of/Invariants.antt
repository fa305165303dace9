use Rattle.std.proofs.Common.{◌≡◌, ◌+◌, drop}
use Rattle.path_automaton.specs.Automata.{number_in}
use Rattle.openflow_rules.proofs.walks.number_of.Given as goal

abbrev pub invariant-loop-number : goal.invariant-loop-number
invariant-loop-number l = number_in l.symbols l.symbol ≡ l.number + number_in (drop l.number l.symbols) l.symbol
