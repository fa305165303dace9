use Rattle.std.proofs.Common.{ℕ, List}
use Rattle.program_walks.specs.Followed.{IsWayBy}
use Rattle.program_walks.proofs.Going.{GoesOnBy}
use Rattle.program_walks.proofs.paths.follow.Given as goal

abbrev pub invariant-loop-step : goal.invariant-loop-step
invariant-loop-step l = (ks : List ℕ) → IsWayBy l.variables l.numbers l.next ks → GoesOnBy l.variables l.numbers l.next l.vertex l.path l._step ks
