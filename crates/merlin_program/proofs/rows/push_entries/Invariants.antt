use Rattle.std.proofs.Common.{◌≡◌, ◌++◌, take}
use Rattle.cutoff_program.specs.Flows.{entries_from}
use Rattle.merlin_program.specs.Kept.{term_in_row}
use Rattle.merlin_program.proofs.rows.push_entries.Given as goal

abbrev pub invariant-loop-number : goal.invariant-loop-number
invariant-loop-number l = l.entries ≡ l.fn.entries ++ entries_from 0 (term_in_row l.problem l.of) (take l.number l.variables)
