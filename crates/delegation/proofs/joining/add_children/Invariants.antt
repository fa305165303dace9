use Rattle.std.proofs.Common.{◌≡◌, ◌++◌, take}
use Rattle.std.specs.List.{flat_map}
use Rattle.delegation.specs.NamedJoins.{statements_of_child}
use Rattle.delegation.specs.NamedTrees.{children_with}
use Rattle.delegation.proofs.joining.add_children.Given as goal

abbrev pub invariant-loop-number : goal.invariant-loop-number
invariant-loop-number l = l.joined ≡ l.initial.joined ++ flat_map statements_of_child (children_with (take l.number l.nodes) (take l.number l.policies) l.place)
