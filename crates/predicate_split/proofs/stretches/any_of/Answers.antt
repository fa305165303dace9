use Rattle.merlin_model.specs.Predicates.{AnyOf-holds}
use Rattle.predicate_split.proofs.stretches.any_of.Goals as goal

pub returns-else-is_empty : goal.returns-else-is_empty
returns-else-is_empty c = AnyOf-holds c.args.preds
