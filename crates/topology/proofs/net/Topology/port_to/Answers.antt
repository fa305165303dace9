use Rattle.std.proofs.Common.{◌==◌, ap, ◌∙◌, find, option_map, nat_eq, ◌&&◌}
use Rattle.std.specs.Map.{lookup}
use Rattle.merlin_model.specs.Networks.{directed_links}
use Rattle.topology.specs.Kept.{network_of}
use Rattle.topology.proofs.Reached.{looked_up-port, port_of_link, port_of_none}
use Rattle.topology.proofs.net.Topology.port_to.Goals as goal

pub returns-clause-some : goal.returns-clause-some
returns-clause-some c = port_of_link c.args.self.now c.args.from c.args.to c.copied.result (c.copied.ensures ∙ (c.get.ensures.value ∙ (ap (lookup (λ k. nat_eq c.args.from k.0 && nat_eq c.args.to k.1)) c.self.invariant.tables.1 ∙ (looked_up-port (directed_links (network_of c.self.inside)) c.args.from c.args.to ∙ ap (λ net. option_map (λ w. w.out_port) (find (λ w. (w.from == c.args.from) && (w.to == c.args.to)) (directed_links net))) c.self.view_is))))

pub returns-clause-none : goal.returns-clause-none
returns-clause-none c = port_of_none c.args.self.now c.args.from c.args.to c.copied.result (c.copied.ensures ∙ (c.get.ensures.value ∙ (ap (lookup (λ k. nat_eq c.args.from k.0 && nat_eq c.args.to k.1)) c.self.invariant.tables.1 ∙ (looked_up-port (directed_links (network_of c.self.inside)) c.args.from c.args.to ∙ ap (λ net. option_map (λ w. w.out_port) (find (λ w. (w.from == c.args.from) && (w.to == c.args.to)) (directed_links net))) c.self.view_is))))
