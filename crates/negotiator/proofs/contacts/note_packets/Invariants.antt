use Rattle.std.proofs.Common.{[], take}
use Rattle.negotiator.specs.Contacts.{IsFoundUpTo}
use Rattle.negotiator.specs.Known.{KnowsVerdicts}
use Rattle.negotiator.proofs.contacts.note_packets.Given as goal

abbrev pub invariant-loop-packet : goal.invariant-loop-packet
invariant-loop-packet l =
    KnowsVerdicts l.case l.src l.dst l.kept.items
    × (IsFoundUpTo l.case.net.now l.case.parent.now.policy l.case.child.now.policy l.src l.dst [] l.initial.found → IsFoundUpTo l.case.net.now l.case.parent.now.policy l.case.child.now.policy l.src l.dst (take l.packet-index l.packets) l.found)
