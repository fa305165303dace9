use Rattle.std.proofs.Common.{◌+◌, ◌*◌}
use Rattle.predicate_split.proofs.parts.+find_others.Given as goal

abbrev pub decreases-find_others : goal.decreases-find_others
decreases-find_others l = 2 * l.bits

abbrev pub decreases-find_in_halves : goal.decreases-find_in_halves
decreases-find_in_halves l = 2 * l.bits + 1
