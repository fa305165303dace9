use Rattle.std.proofs.Common.{IfSome, IfNone, sym, subst}
use Rattle.merlin_model.specs.declared.policy.Pred.{Pred, All}
use Rattle.merlin_model.specs.Packets.{IsLeastPacket}
use Rattle.merlin_model.specs.Predicates.{IsPred}
use Rattle.predicate_split.specs.Least.{AllHold}
use Rattle.predicate_split.specs.Walks.{HoldsAt, HoldsNowhere}
use Rattle.predicate_split.proofs.Starting.{all_formed}
use Rattle.predicate_split.proofs.Properties.{some-same, none-same, all-from, all-to}
use Rattle.predicate_split.proofs.witness.least_common.Goals as goal

pub least_packet-requires : goal.least_packet-requires
least_packet-requires c = subst IsPred (sym c.in_ok-all.ensures) (all_formed c.args.preds.now c.requires)

pub returns-clause-some : goal.returns-clause-some
returns-clause-some c =
    some-same (HoldsAt (All c.args.preds.now)) (AllHold c.args.preds.now) (all-from c.args.preds.now) (all-to c.args.preds.now) c.in_ok-found.found
    (subst (λ (q : Pred). IfSome c.in_ok-found.found (IsLeastPacket (HoldsAt q))) c.in_ok-all.ensures c.in_ok-found.ensures.some)

pub returns-clause-none : goal.returns-clause-none
returns-clause-none c =
    none-same (HoldsAt (All c.args.preds.now)) (AllHold c.args.preds.now) (all-to c.args.preds.now) c.in_ok-found.found
    (subst (λ (q : Pred). IfNone c.in_ok-found.found (HoldsNowhere q)) c.in_ok-all.ensures c.in_ok-found.ensures.none)
