use Rattle.std.specs.List.{AllByRecursion}
use Rattle.merlin_model.specs.Predicates.{IsPred}
use Rattle.worked_rows.proofs.splits.preds_of.Given as goal

abbrev pub invariant-loop-statement : goal.invariant-loop-statement
invariant-loop-statement l = AllByRecursion IsPred l.preds
