use Rattle.std.proofs.Common.{◌≡◌, ◌==◌, find, drop}
use Rattle.merlin_model.specs.Networks.{directed_links_of}
use Rattle.packet_trace.proofs.hosts.link_of.Given as goal

abbrev pub invariant-loop-link : goal.invariant-loop-link
invariant-loop-link l = find (λ directed. directed.from == l.host) (directed_links_of l.net.links) ≡ find (λ directed. directed.from == l.host) (directed_links_of (drop l.link-index l.link-items))
