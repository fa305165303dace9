use Rattle.std.proofs.Common.{sym, subst}
use Rattle.product_graph.specs.Followers.{AreOrderedSymbols}
use Rattle.product_graph.proofs.Ordered.{ordered}
use Rattle.product_graph.proofs.product.followers_of.Goals as goal

pub followers_in-requires : goal.followers_in-requires
followers_in-requires c = subst (AreOrderedSymbols c.args.net.now) (sym c.symbols.ensures) (ordered c.args.net.now)
