use Rattle.std.proofs.Common.{◌≡◌, map, take}
use Rattle.path_regex.specs.Derivatives.{takes_empty}
use Rattle.path_automaton.proofs.automaton.accepting.Given as goal

abbrev pub invariant-loop-state : goal.invariant-loop-state
invariant-loop-state l = l.flags ≡ map takes_empty (take l.state l.states)
