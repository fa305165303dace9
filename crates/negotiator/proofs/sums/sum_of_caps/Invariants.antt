use Rattle.std.proofs.Common.{◌≡◌, ◌≤◌, ◌*◌, Some, drop}
use Rattle.merlin_model.specs.declared.limits.TheConstants.{MAX_RATE}
use Rattle.refinement_model.specs.Refinement.{sum_known, sum_of_caps}
use Rattle.negotiator.specs.Marks.{marked, marked_from}
use Rattle.negotiator.proofs.sums.sum_of_caps.Given as goal

-- the sum is small, and with the caps that are left it is the whole
abbrev pub invariant-loop-statement : goal.invariant-loop-statement
invariant-loop-statement l = (l.sum ≤ l.statement * MAX_RATE)
    × (sum_of_caps l.policy.policy (marked l.marks) ≡ sum_known (Some l.sum) (sum_of_caps l.policy.policy (marked_from l.statement (drop l.statement l.marks))))
