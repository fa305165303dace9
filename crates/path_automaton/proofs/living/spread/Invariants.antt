use Rattle.std.proofs.Common.{◌≤◌, length}
use Rattle.path_automaton.specs.Living.{IsSpread}
use Rattle.path_automaton.proofs.living.spread.Given as goal

abbrev pub invariant-loop-state : goal.invariant-loop-state
invariant-loop-state l = IsSpread l.rows l.state l.initial.living l.living l.changed × (l.state ≤ length l.rows)

abbrev pub decreases-loop-state : goal.decreases-loop-state
decreases-loop-state l = l.state
