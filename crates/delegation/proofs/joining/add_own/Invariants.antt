use Rattle.std.proofs.Common.{◌≡◌, ◌++◌, map, take}
use Rattle.merlin_model.specs.declared.policy.Pred.{AnyOf, Not}
use Rattle.delegation.specs.NamedJoins.{statement_elsewhere}
use Rattle.delegation.proofs.joining.add_own.Given as goal

abbrev pub invariant-loop-r : goal.invariant-loop-r
invariant-loop-r l = record {
  outside : l.outside ≡ Not (AnyOf l.fn.scopes);
  joined : l.joined ≡ l.initial.joined ++ map (statement_elsewhere l.fn.scopes) (take l.r-index l.own);
}
