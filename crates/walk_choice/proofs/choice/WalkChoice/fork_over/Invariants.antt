use Rattle.std.proofs.Common.{◌≡◌, length, IfSome}
use Rattle.bound_search.specs.Boxes.{IsFree}
use Rattle.walk_choice.proofs.choice.WalkChoice.fork_over.Given as goal

abbrev pub invariant-loop-flow : goal.invariant-loop-flow
invariant-loop-flow l = record {
  size : length l.point ≡ length l.self.variables;
  free : IfSome l.best (IsFree l.fixed);
}
