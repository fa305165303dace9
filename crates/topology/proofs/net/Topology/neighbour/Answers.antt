use Rattle.std.proofs.Common.{ap, ◌∙◌, option_map, nat_eq, ◌&&◌}
use Rattle.std.specs.Map.{lookup}
use Rattle.merlin_model.specs.Networks.{directed_links}
use Rattle.merlin_model.specs.Machine.{link_at}
use Rattle.topology.specs.Look.{far_end}
use Rattle.topology.specs.Kept.{network_of}
use Rattle.topology.proofs.Reached.{looked_up-far_end}
use Rattle.topology.proofs.net.Topology.neighbour.Goals as goal

pub returns : goal.returns
returns c = c.copied.ensures ∙ (c.get.ensures.value ∙ (ap (lookup (λ k. nat_eq c.args.loc k.0 && nat_eq c.args.port k.1)) c.self.invariant.tables.0 ∙ (looked_up-far_end (directed_links (network_of c.self.inside)) c.args.loc c.args.port ∙ ap (λ net. option_map far_end (link_at net c.args.loc c.args.port)) c.self.view_is)))
