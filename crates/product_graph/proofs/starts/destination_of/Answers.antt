use Rattle.std.proofs.Common.{sym, subst}
use Rattle.merlin_model.specs.Networks.{IsHost}
use Rattle.product_graph.proofs.Starting.{host-listed}
use Rattle.product_graph.proofs.starts.destination_of.Goals as goal

pub number_at-requires : goal.number_at-requires
number_at-requires c = host-listed c.args.net.now c.args.symbols.now c.requires.symbols c.host_of-host.result (subst (IsHost c.args.net.now) (sym c.host_of-host.ensures) c.requires.host)
