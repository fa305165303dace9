use Rattle.std.proofs.Common.{◌≡◌, Some, map, take}
use Rattle.predicate_split.specs.Grids.{choice_of}
use Rattle.predicate_split.proofs.grids.each_port.Given as goal

abbrev pub invariant-loop-value : goal.invariant-loop-value
invariant-loop-value l = l.each.items ≡ map (choice_of l.named) (map Some (take l.value-index l.named))
