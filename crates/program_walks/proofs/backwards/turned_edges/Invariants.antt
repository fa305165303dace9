use Rattle.std.proofs.Common.{◌≡◌, Some, slice_get}
use Rattle.cutoff_program.specs.Flows.{last_of}
use Rattle.cutoff_program.specs.declared.flow.Flow.{Flow}
use Rattle.program_walks.specs.Turned.{AreTurned}
use Rattle.program_walks.proofs.backwards.turned_edges.Given as goal

abbrev pub invariant-loop-k : goal.invariant-loop-k
invariant-loop-k l = (flow : Flow) → slice_get l.problem.flows l.number ≡ Some flow → AreTurned l.problem l.point l.number (last_of flow) l.k l.found
