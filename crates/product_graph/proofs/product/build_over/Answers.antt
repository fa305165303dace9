use Rattle.std.proofs.Common.{sym, subst}
use Rattle.product_graph.specs.Followers.{AreOrderedSymbols}
use Rattle.product_graph.proofs.Ordered.{ordered}
use Rattle.product_graph.proofs.product.build_over.Goals as goal

pub product_over-requires-clause-symbols : goal.product_over-requires-clause-symbols
product_over-requires-clause-symbols c = subst (AreOrderedSymbols c.args.net.now) (sym c.symbols-symbols.ensures) (ordered c.args.net.now)
