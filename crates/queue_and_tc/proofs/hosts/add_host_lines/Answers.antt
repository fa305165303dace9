use Rattle.std.proofs.Common.{List, sym, subst}
use Rattle.std.specs.List.{AllByRecursion}
use Rattle.merlin_model.specs.declared.policy.Pred.{Pred}
use Rattle.merlin_model.specs.Predicates.{IsPred}
use Rattle.queue_and_tc.proofs.RatesByPlace.{formed-preds}
use Rattle.queue_and_tc.proofs.hosts.add_host_lines.Goals as goal

pub reaches_of-requires : goal.reaches_of-requires
reaches_of-requires c =
    subst (λ (preds : List Pred). AllByRecursion IsPred preds) (sym c.preds.ensures) (formed-preds c.args.checked.now.policy.statements c.statements-sound.ensures.sound.preds)
