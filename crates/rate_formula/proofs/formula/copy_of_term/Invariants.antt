use Rattle.std.proofs.Common.{◌≡◌, take}
use Rattle.rate_formula.proofs.formula.copy_of_term.Given as goal

abbrev pub invariant-loop-part : goal.invariant-loop-part
invariant-loop-part l = l.parts ≡ take l.part-index l.part-items
