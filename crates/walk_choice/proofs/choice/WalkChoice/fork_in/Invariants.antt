use Rattle.std.proofs.Common.{◌≡◌, length}
use Rattle.walk_choice.proofs.choice.WalkChoice.fork_in.Given as goal

abbrev pub invariant-loop-number : goal.invariant-loop-number
invariant-loop-number l = length l.point ≡ length l.self.variables
