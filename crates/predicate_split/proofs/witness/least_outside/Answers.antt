use Rattle.std.proofs.Common.{IfSome, IfNone, sym, subst}
use Rattle.merlin_model.specs.declared.policy.Pred.{Pred, AnyOf, Not}
use Rattle.merlin_model.specs.Packets.{IsLeastPacket}
use Rattle.merlin_model.specs.Predicates.{IsPred}
use Rattle.predicate_split.specs.Least.{NoneHolds}
use Rattle.predicate_split.specs.Walks.{HoldsAt, HoldsNowhere}
use Rattle.predicate_split.proofs.Starting.{none_formed}
use Rattle.predicate_split.proofs.Properties.{some-same, none-same, none-from, none-to}
use Rattle.predicate_split.proofs.witness.least_outside.Goals as goal

pub least_packet-requires : goal.least_packet-requires
least_packet-requires c = subst IsPred (sym c.in_ok-none.ensures) (none_formed c.args.preds.now c.requires)

pub returns-clause-some : goal.returns-clause-some
returns-clause-some c =
    some-same (HoldsAt (Not (AnyOf c.args.preds.now))) (NoneHolds c.args.preds.now) (none-from c.args.preds.now) (none-to c.args.preds.now) c.in_ok-found.found
    (subst (λ (q : Pred). IfSome c.in_ok-found.found (IsLeastPacket (HoldsAt q))) c.in_ok-none.ensures c.in_ok-found.ensures.some)

pub returns-clause-none : goal.returns-clause-none
returns-clause-none c =
    none-same (HoldsAt (Not (AnyOf c.args.preds.now))) (NoneHolds c.args.preds.now) (none-to c.args.preds.now) c.in_ok-found.found
    (subst (λ (q : Pred). IfNone c.in_ok-found.found (HoldsNowhere q)) c.in_ok-none.ensures c.in_ok-found.ensures.none)
