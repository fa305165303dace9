use Rattle.std.proofs.Common.{◌≡◌, drop}
use Rattle.std.specs.Prelude.{find}
use Rattle.policy_expansion.specs.Faults.{is_mixed}
use Rattle.policy_expansion.proofs.faults.ask_kinds.Given as goal

abbrev pub invariant-loop-set : goal.invariant-loop-set
invariant-loop-set l = find is_mixed (drop l.set-index l.sets) ≡ find is_mixed l.sets
