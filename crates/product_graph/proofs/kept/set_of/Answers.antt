use Rattle.std.proofs.Common.{◌++◌, List, sym, subst}
use Rattle.merlin_model.specs.Networks.{AreDifferent}
use Rattle.product_graph.specs.declared.vertex_set.NumberedVertex.{NumberedVertex}
use Rattle.product_graph.proofs.Listing.{different-front}
use Rattle.product_graph.proofs.kept.set_of.Goals as goal

pub put_all-requires : goal.put_all-requires
put_all-requires c = subst (λ (l : List NumberedVertex). AreDifferent (l ++ c.args.first.now)) (sym c.new-vertices.ensures) (different-front c.args.first.now c.args.inner.now c.requires)
