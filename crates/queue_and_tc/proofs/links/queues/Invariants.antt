use Rattle.std.proofs.Common.{◌≡◌, map, take}
use Rattle.std.specs.List.{flat_map}
use Rattle.queue_and_tc.specs.Reserved.{queues_of_both}
use Rattle.queue_and_tc.proofs.links.queues.Given as goal

abbrev pub invariant-loop-link : goal.invariant-loop-link
invariant-loop-link l = l.queues.items ≡ flat_map (queues_of_both l.checked.policy l.ends (map (λ w. w.items) l.walks)) (take l.link-index l.link-items)
