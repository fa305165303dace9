use Rattle.std.proofs.Common.{◌≡◌, ◌++◌, map, take}
use Rattle.delegation.specs.NamedJoins.{statement_in_scope}
use Rattle.delegation.proofs.joining.add_statements.Given as goal

abbrev pub invariant-loop-r : goal.invariant-loop-r
invariant-loop-r l = l.joined ≡ l.initial.joined ++ map (statement_in_scope l.child) (take l.r-index l.statements)
