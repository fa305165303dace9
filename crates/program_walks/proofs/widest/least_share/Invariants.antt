use Rattle.std.proofs.Common.{◌≡◌, ◌+◌, ◌-◌, ◌≤◌, ◌<◌, Some, slice_get}
use Rattle.cutoff_program.specs.declared.flow.Flow.{Flow}
use Rattle.program_walks.specs.declared.crossing.TheConstants.{UNCROSSED}
use Rattle.program_walks.proofs.Narrowing.{IsNarrowed}
use Rattle.program_walks.proofs.widest.least_share.Given as goal

abbrev pub invariant-widths : goal.invariant-widths
invariant-widths l =
    (l.low < l.high) × (l.high ≤ UNCROSSED + 1)
    × ((flow : Flow) → slice_get l.problem.flows l.number ≡ Some flow → IsNarrowed l.problem l.number flow l.low l.high l.share)

abbrev pub decreases-widths : goal.decreases-widths
decreases-widths l = l.high - l.low
