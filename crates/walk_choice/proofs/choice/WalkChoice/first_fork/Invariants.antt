use Rattle.std.proofs.Common.{◌≡◌, length}
use Rattle.walk_choice.proofs.choice.WalkChoice.first_fork.Given as goal

abbrev pub invariant-loop-flow : goal.invariant-loop-flow
invariant-loop-flow l = length l.point ≡ length l.self.variables
