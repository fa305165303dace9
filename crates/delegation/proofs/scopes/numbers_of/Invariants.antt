use Rattle.std.proofs.Common.{◌≡◌, take}
use Rattle.delegation.specs.NamedTrees.{numbers_under}
use Rattle.delegation.proofs.scopes.numbers_of.Given as goal

abbrev pub invariant-loop-number : goal.invariant-loop-number
invariant-loop-number l = l.numbers ≡ numbers_under (take l.number l.nodes) l.place
