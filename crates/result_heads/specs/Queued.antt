-- What the queues of a configuration put on directed links.
use Rattle.std.specs.Prelude.{ℕ, ◌≤◌, ◌==◌, ◌&&◌, List, filter, sum_by}
use Rattle.std.specs.List.{AllByRecursion}
use Rattle.merlin_model.specs.declared.config.Queue.{Queue}
use Rattle.merlin_model.specs.declared.network.DirectedLink.{DirectedLink}
use Rattle.merlin_model.specs.Networks.{Network, directed_links}

-- the rates of the queues at the port of a directed link, together
abbrev pub queued_on : List Queue → DirectedLink → ℕ
queued_on queues link = sum_by (λ q. q.rate) (filter (λ q. (q.loc == link.from) && (q.port == link.out_port)) queues)

-- no directed link has more queued than it carries
abbrev pub AreWithinCapacities : Network → List Queue → Type 0
AreWithinCapacities net queues = AllByRecursion (λ link. queued_on queues link ≤ link.capacity) (directed_links net)
