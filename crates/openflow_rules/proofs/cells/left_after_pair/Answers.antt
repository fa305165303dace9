use Rattle.std.proofs.Common.{sym, subst}
use Rattle.std.specs.List.{AllByRecursion}
use Rattle.merlin_model.specs.Predicates.{IsPred}
use Rattle.merlin_model.specs.Policies.{Statement}
use Rattle.openflow_rules.proofs.Rooms.{all-mapped}
use Rattle.openflow_rules.proofs.cells.left_after_pair.Goals as goal

pub cells_among-requires : goal.cells_among-requires
cells_among-requires c = subst (AllByRecursion IsPred) (sym c.preds.ensures) (all-mapped IsPred (λ (s : Statement). s.pred) c.args.checked.now.policy.statements c.statements.ensures.sound.preds)
