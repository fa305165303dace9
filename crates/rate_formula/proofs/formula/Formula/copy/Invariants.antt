use Rattle.std.proofs.Common.{◌≡◌, take}
use Rattle.rate_formula.proofs.formula.Formula.copy.Given as goal

abbrev pub invariant-loop-term : goal.invariant-loop-term
invariant-loop-term l = l.terms ≡ take l.term-index l.term-items
