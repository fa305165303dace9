use Rattle.std.proofs.Common.{take, get_or}
use Rattle.merlin_model.specs.declared.policy.Path.{Nothing}
use Rattle.path_automaton.proofs.Following.{IsBegun}
use Rattle.path_automaton.proofs.exploring.row.Given as goal

abbrev pub invariant-loop-symbol : goal.invariant-loop-symbol
invariant-loop-symbol l = IsBegun l.initial.states (get_or l.initial.states l.state Nothing) (take l.symbol-index l.symbols) l.states l.places
