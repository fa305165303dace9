use Rattle.path_automaton.specs.Living.{dead}
use Rattle.path_automaton.proofs.LivingLaws.{IsBetween}
use Rattle.path_automaton.proofs.living.living.Given as goal

abbrev pub invariant-rounds : goal.invariant-rounds
invariant-rounds l = IsBetween l.rows l.accepting l.living

abbrev pub decreases-rounds : goal.decreases-rounds
decreases-rounds l = dead l.living
