use Rattle.merlin_model.specs.Predicates.{All-holds}
use Rattle.predicate_split.proofs.stretches.all_of.Goals as goal

pub returns-else-is_empty : goal.returns-else-is_empty
returns-else-is_empty c = All-holds c.args.preds
