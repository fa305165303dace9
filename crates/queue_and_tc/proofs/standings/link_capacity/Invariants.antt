use Rattle.std.proofs.Common.{◌≡◌, ◌==◌, drop, find}
use Rattle.std.specs.Option.{option_map_or}
use Rattle.merlin_model.specs.Networks.{directed_links_of}
use Rattle.queue_and_tc.proofs.standings.link_capacity.Given as goal

abbrev pub invariant-loop-link : goal.invariant-loop-link
invariant-loop-link l =
    option_map_or (λ w. w.capacity) (find (λ w. w.from == l.host) (directed_links_of (drop l.link-index l.link-items))) 0
    ≡ option_map_or (λ w. w.capacity) (find (λ w. w.from == l.host) (directed_links_of l.net.links)) 0
