use Rattle.std.proofs.Common.{◌≡◌, map, take}
use Rattle.std.specs.List.{AllByRecursion}
use Rattle.merlin_model.specs.Assignments.{AreTheEnds}
use Rattle.policy_check.proofs.guarantees.ends_of_all.Given as goal

abbrev pub invariant-loop-statement : goal.invariant-loop-statement
invariant-loop-statement l = record {
  places : map (λ e. e.statement) l.ends.items ≡ take l.statement-index l.statements;
  each : AllByRecursion (AreTheEnds l.net l.checked.policy) l.ends.items;
}
