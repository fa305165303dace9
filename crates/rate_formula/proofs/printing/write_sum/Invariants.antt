use Rattle.std.proofs.Common.{◌≡◌, ◌++◌, take, codes}
use Rattle.std.specs.List.{join_by}
use Rattle.rate_formula.specs.FormulaText.{part_text}
use Rattle.rate_formula.proofs.printing.write_sum.Given as goal

abbrev pub invariant-loop-place : goal.invariant-loop-place
invariant-loop-place l = l.text.items ≡ l.initial.text.items ++ join_by part_text (codes " + ") (take l.place l.parts)
