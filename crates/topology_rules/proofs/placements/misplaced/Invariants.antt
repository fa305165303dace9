use Rattle.std.proofs.Common.{take}
use Rattle.std.specs.List.{AllByRecursion}
use Rattle.topology_rules.specs.Rules.{IsPlacedAmong}
use Rattle.topology_rules.proofs.placements.misplaced.Given as goal

abbrev pub invariant-loop-place : goal.invariant-loop-place
invariant-loop-place l = AllByRecursion (IsPlacedAmong l.locations) (take l.place l.functions)
