use Rattle.std.proofs.Common.{◌≡◌, take, codes}
use Rattle.std.specs.List.{join_by}
use Rattle.rate_formula.specs.FormulaText.{term_text}
use Rattle.rate_formula.proofs.printing.print_formula.Given as goal

abbrev pub invariant-loop-place : goal.invariant-loop-place
invariant-loop-place l = l.text.items ≡ join_by term_text (codes " and ") (take l.place l.formula.terms)
