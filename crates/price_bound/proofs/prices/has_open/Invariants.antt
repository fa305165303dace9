use Rattle.std.proofs.Common.{ℕ, ◌<◌}
use Rattle.std.specs.Option.{option_copied}
use Rattle.merlin_model.specs.Trees.{IsOpen}
use Rattle.cutoff_program.specs.Flows.{program_at}
use Rattle.price_bound.proofs.prices.has_open.Given as goal

abbrev pub invariant-loop-variable : goal.invariant-loop-variable
invariant-loop-variable l = (k : ℕ) → k < l.variable → ¬ IsOpen (program_at l.program.problem (option_copied l.cutoff)) l.fixed k
