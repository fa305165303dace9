use Rattle.std.proofs.Common.{◌-◌, length}
use Rattle.path_regex.specs.Normal.{normal_of}
use Rattle.path_automaton.specs.Followed.{AreExploring}
use Rattle.path_automaton.specs.declared.exploring.TheConstants.{MAX_STATES}
use Rattle.path_automaton.proofs.exploring.explore.Given as goal

abbrev pub invariant-turns : goal.invariant-turns
invariant-turns l = AreExploring (normal_of l.path) l.symbols l.states l.rows

abbrev pub decreases-turns : goal.decreases-turns
decreases-turns l = MAX_STATES - length l.rows
