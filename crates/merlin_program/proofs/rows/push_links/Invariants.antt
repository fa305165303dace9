use Rattle.std.proofs.Common.{◌≡◌, ◌++◌, take, List, None}
use Rattle.merlin_model.specs.Programs.{Row}
use Rattle.cutoff_program.specs.Flows.{link_rows_from}
use Rattle.merlin_program.specs.Kept.{kept}
use Rattle.merlin_program.proofs.rows.push_links.Given as goal

abbrev pub invariant-loop-link : goal.invariant-loop-link
invariant-loop-link l = (before : List Row) → l.fn.rows ≡ kept before → l.rows ≡ kept (before ++ link_rows_from l.problem None 0 (take l.link l.problem.links))
