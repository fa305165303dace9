use Rattle.std.proofs.Common.{sym, subst}
use Rattle.std.specs.List.{AllByRecursion}
use Rattle.merlin_model.specs.Predicates.{IsPred}
use Rattle.merlin_model.specs.Policies.{Statement}
use Rattle.openflow_rules.proofs.Rooms.{all-mapped}
use Rattle.openflow_rules.proofs.owned.add_pair.Goals as goal

pub cells_found-requires : goal.cells_found-requires
cells_found-requires c = subst (AllByRecursion IsPred) (sym c.preds-preds.ensures) (all-mapped IsPred (λ (s : Statement). s.pred) c.args.checked.now.policy.statements c.statements.ensures.sound.preds)
