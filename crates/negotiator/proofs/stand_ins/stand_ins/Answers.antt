use Rattle.std.proofs.Common.{List, sym, ap, ◌∙◌, ◌≡◌, ◌<◌, ◌^◌, subst}
use Rattle.std.proofs.lemmas.Result.{IfOk-weaker}
use Rattle.std.specs.List.{AllByRecursion}
use Rattle.merlin_model.specs.declared.policy.Pred.{Pred}
use Rattle.merlin_model.specs.Packets.{Packet}
use Rattle.predicate_split.specs.Cells.{between_hosts, protos}
use Rattle.negotiator.specs.StandIns.{AreStandIns, HasSmallPorts, packets_left}
use Rattle.negotiator.proofs.StandingIn.{small-protos, small-ports, stood-in}
use Rattle.negotiator.proofs.stand_ins.stand_ins.Goals as goal

pub packets_left-requires-clause-named : goal.packets_left-requires-clause-named
packets_left-requires-clause-named c =
    subst (λ (ps : List Pred). AllByRecursion (λ n. n < 2 ^ 8) (protos ps)) (sym (c.as_slice.ensures ∙ c.in_ok-left.ensures)) (small-protos c.args.src c.args.dst c.args.preds.now c.requires.preds)

pub packets_left-requires-clause-ports : goal.packets_left-requires-clause-ports
packets_left-requires-clause-ports c proto =
    subst (λ (ps : List Pred). HasSmallPorts ps proto) (sym (c.as_slice.ensures ∙ c.in_ok-left.ensures)) (small-ports c.args.src c.args.dst c.args.preds.now c.requires.preds proto)

pub returns : goal.returns
returns c =
    let same : packets_left c.args.src c.args.dst c.as_slice.result.now ≡ packets_left c.args.src c.args.dst (between_hosts c.args.src c.args.dst c.args.preds.now) = ap (packets_left c.args.src c.args.dst) (c.as_slice.ensures ∙ c.in_ok-left.ensures) in
    IfOk-weaker c.packets_left.result _ _ (λ packets e. subst (λ (ps : List Packet). AreStandIns c.args.preds.now c.args.src c.args.dst ps) (sym (e ∙ same))
    (stood-in c.args.src c.args.dst c.args.preds.now c.requires.preds c.requires.differ c.requires.src c.requires.dst)) c.packets_left.ensures
