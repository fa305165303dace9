use Rattle.std.proofs.Common.{◌≡◌, take}
use Rattle.merlin_model.specs.Networks.{directed_links_of as directed_links_of_links}
use Rattle.topology_rules.proofs.links.directed_links_of.Given as goal

abbrev pub invariant-loop-link : goal.invariant-loop-link
invariant-loop-link l = l.directed_links.items ≡ directed_links_of_links (take l.link-index l.links)
