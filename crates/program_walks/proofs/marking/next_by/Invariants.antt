use Rattle.std.proofs.Common.{◌≡◌, ◌<◌, ℕ, Some, slice_get}
use Rattle.cutoff_program.specs.declared.flow.Variable.{Variable}
use Rattle.program_walks.specs.Marks.{LeadsToSymbol}
use Rattle.program_walks.proofs.marking.next_by.Given as goal

abbrev pub invariant-loop-number : goal.invariant-loop-number
invariant-loop-number l = (k : ℕ) (v : Variable) → k < l.number → slice_get l.variables k ≡ Some v → ¬ LeadsToSymbol l.symbols l.flow l.vertex l.symbol v
