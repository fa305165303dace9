use Rattle.std.proofs.Common.{◌≡◌, take, map, filter, nat_lt}
use Rattle.config_text.specs.Loads.{load_over}
use Rattle.result_heads.specs.Queued.{queued_on}
use Rattle.result_heads.proofs.queued.loads_from.Given as goal

abbrev pub invariant-loop-link : goal.invariant-loop-link
invariant-loop-link l =
    l.loads.items ≡ filter (λ load. nat_lt 0 load.load) (map (load_over (queued_on l.queues)) (take l.link-index l.link-items))
