use Rattle.std.proofs.Common.{◌≡◌, ◌≤◌, take}
use Rattle.topology_rules.specs.declared.limits.TheConstants.{MAX_PLACEMENTS}
use Rattle.topology_rules.specs.Counts.{placements}
use Rattle.topology_rules.proofs.counts.placement_count.Given as goal

abbrev pub invariant-loop-function : goal.invariant-loop-function
invariant-loop-function l = (l.count ≡ placements (take l.function-index l.functions)) × (l.count ≤ MAX_PLACEMENTS)
