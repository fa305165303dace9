use Rattle.std.proofs.Common.{◌≡◌, take}
use Rattle.delegation.proofs.rating.copy_of_policy.Given as goal

abbrev pub invariant-loop-statement : goal.invariant-loop-statement
invariant-loop-statement l = l.statements ≡ take l.statement-index l.statement-items
