use Rattle.std.proofs.Common.{◌≡◌, ◌++◌, take}
use Rattle.std.specs.List.{flat_map}
use Rattle.negotiator.specs.StandIns.{packets_under}
use Rattle.negotiator.proofs.stand_ins.add_all.Given as goal

abbrev pub invariant-loop-proto : goal.invariant-loop-proto
invariant-loop-proto l = l.packets.items ≡ l.initial.packets.items ++ flat_map (packets_under l.src l.dst l.left) (take l.proto-index l.named)
