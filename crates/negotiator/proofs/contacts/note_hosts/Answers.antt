use Rattle.std.proofs.Common.{List, sym, subst}
use Rattle.merlin_model.specs.declared.policy.Pred.{Pred}
use Rattle.merlin_model.specs.Packets.{Packet}
use Rattle.negotiator.specs.StandIns.{AreStandIns}
use Rattle.negotiator.proofs.Finding.{apart-addresses, whole-pair, on-ok}
use Rattle.negotiator.proofs.contacts.note_hosts.Goals as goal

pub stand_ins-requires-clause-src : goal.stand_ins-requires-clause-src
stand_ins-requires-clause-src c = c.requires.network.forms.addresses c.args.src c.args.addresses.0 c.requires.src

pub stand_ins-requires-clause-dst : goal.stand_ins-requires-clause-dst
stand_ins-requires-clause-dst c = c.requires.network.forms.addresses c.args.dst c.args.addresses.1 c.requires.dst

pub returns : goal.returns
returns c =
    let apart = apart-addresses c.args.case.now.net.now c.requires.network.lawful c.args.src c.args.dst c.args.addresses.0 c.args.addresses.1 c.requires.differ c.requires.src c.requires.dst in
    let stand = subst (λ (ps : List Packet). AreStandIns c.args.preds.now c.args.addresses.0 c.args.addresses.1 ps) (sym c.deref.ensures.value) c.in_ok-packets.ensures in
    let are = subst (λ (ps : List Pred). AreStandIns ps c.args.addresses.0 c.args.addresses.1 c.deref.result.now) c.requires.preds stand in
    on-ok c.note_packets.result _ _ (λ step was. whole-pair c.args.case.now.net.now c.args.case.now.parent.now.policy c.args.case.now.child.now.policy c.args.src c.args.dst c.args.addresses.0 c.args.addresses.1 apart c.requires.differ c.requires.src c.requires.dst c.deref.result.now are c.note_packets.new.found (step was))
    c.note_packets.ensures
