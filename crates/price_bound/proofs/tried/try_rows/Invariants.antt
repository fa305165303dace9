use Rattle.std.proofs.Common.{ℕ, ◌≡◌, ◌<◌}
use Rattle.std.specs.Option.{option_copied}
use Rattle.cutoff_program.specs.Flows.{program_at}
use Rattle.price_bound.specs.Numbers.{DoesNotRefute}
use Rattle.price_bound.proofs.tried.try_rows.Given as goal

abbrev pub invariant-loop-row : goal.invariant-loop-row
invariant-loop-row l = record {
  same : l.workspace ≡ l.fn.workspace;
  tried : (k : ℕ) → k < l.row → DoesNotRefute (program_at l.program.problem (option_copied l.cutoff)) l.fixed k;
}
