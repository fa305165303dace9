use Rattle.std.proofs.Common.{Contains, take}
use Rattle.path_automaton.proofs.classes.class_of.Given as goal

abbrev pub invariant-loop-class : goal.invariant-loop-class
invariant-loop-class l = ¬ Contains (take l.class l.kinds) l.kind
