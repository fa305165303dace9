use Rattle.std.proofs.Common.{◌≡◌, ◌++◌, take}
use Rattle.negotiator.specs.StandIns.{packets_from}
use Rattle.negotiator.proofs.stand_ins.add_from.Given as goal

abbrev pub invariant-loop-sport : goal.invariant-loop-sport
invariant-loop-sport l = l.packets.items ≡ l.initial.packets.items ++ packets_from l.src l.dst (take l.sport-index l.sports) l.dports l.proto
