use Rattle.std.proofs.Common.{◌++◌, ◌∷◌, [], take, List, subst, sym, ap, ◌∙◌}
use Rattle.std.proofs.lemmas.List.{take_more}
use Rattle.merlin_model.specs.Packets.{Packet}
use Rattle.negotiator.specs.Contacts.{IsFoundUpTo}
use Rattle.negotiator.proofs.contacts.note_packets.Goals as goal

pub note_packet-requires-clause-kept : goal.note_packet-requires-clause-kept
note_packet-requires-clause-kept c = c.loop-packet.invariant.0

pub loop-packet-preserved : goal.loop-packet-preserved
loop-packet-preserved c =
    let more = take_more c.args.packets.now c.loop-packet.packet-index _ c.loop-packet-test.true ∙ ap (λ (p : Packet). take c.loop-packet.packet-index c.args.packets.now ++ p ∷ []) (sym c.packet-item.is) in (
      c.in_ok-note_packet.ensures.kept,
      λ was. subst (λ (ps : List Packet). IsFoundUpTo c.args.case.now.net.now c.args.case.now.parent.now.policy c.args.case.now.child.now.policy c.args.src c.args.dst ps c.note_packet.new.found) (sym more)
          (c.in_ok-note_packet.ensures.found (take c.loop-packet.packet-index c.args.packets.now) (c.loop-packet.invariant.1 was)),
    )
