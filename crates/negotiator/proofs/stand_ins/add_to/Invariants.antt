use Rattle.std.proofs.Common.{◌≡◌, ◌++◌, take}
use Rattle.negotiator.specs.StandIns.{packets_to}
use Rattle.negotiator.proofs.stand_ins.add_to.Given as goal

abbrev pub invariant-loop-dport : goal.invariant-loop-dport
invariant-loop-dport l = l.packets.items ≡ l.initial.packets.items ++ packets_to l.src l.dst (take l.dport-index l.dports) l.proto l.sport
