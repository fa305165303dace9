use Rattle.std.proofs.Common.{IsTrue, None, Some}
use Rattle.merlin_model.specs.Programs.{variables, is_lower}
use Rattle.bound_search.specs.Descent.{IsBestSoFar, count_points, cutoff_of_best}
use Rattle.bound_search.proofs.search.descend.Given as goal

abbrev pub invariant-loop-best : goal.invariant-loop-best
invariant-loop-best g l = record {
  of : IsTrue (g.R.Relaxation.is_of l.relaxation l.program);
  best : IsBestSoFar g.row.P-Cutoff.Denot (g.P.Program.instance l.program) (g.P.Program.neat l.program) (g.P.Program.takes l.program) (g.P.Program.value l.program) l.best;
}

abbrev pub decreases-loop-best : goal.decreases-loop-best
decreases-loop-best g l =
    count_points (variables (g.P.Program.instance l.program None)) (λ q. is_lower (g.P.Program.is_below l.program) (Some (g.P.Program.value l.program q)) (cutoff_of_best l.best))
