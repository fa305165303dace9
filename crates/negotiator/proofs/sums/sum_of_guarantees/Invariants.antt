use Rattle.std.proofs.Common.{◌≡◌, ◌≤◌, ◌+◌, ◌*◌, drop, sum_by}
use Rattle.merlin_model.specs.declared.limits.TheConstants.{MAX_RATE}
use Rattle.merlin_model.specs.Rates.{min_of}
use Rattle.negotiator.specs.Marks.{marked, marked_from}
use Rattle.negotiator.proofs.sums.sum_of_guarantees.Given as goal

-- the sum is small, and with the guarantees that are left it is the whole
abbrev pub invariant-loop-statement : goal.invariant-loop-statement
invariant-loop-statement l = (l.sum ≤ l.statement * MAX_RATE)
    × (sum_by (min_of l.policy.policy) (marked l.marks) ≡ l.sum + sum_by (min_of l.policy.policy) (marked_from l.statement (drop l.statement l.marks)))
