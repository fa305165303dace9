use Rattle.std.proofs.Common.{◌<◌, None}
use Rattle.product_graph.specs.declared.span.Vertex.{Vertex as ListedVertex}
use Rattle.product_graph.proofs.Lists.{all-at}
use Rattle.openflow_rules.proofs.Counting.{counts-next}
use Rattle.openflow_rules.proofs.entries.functions_by_location.Goals as goal

abbrev none : ListedVertex
none = record { symbol = record { loc = 0; fun = None }; state = 0 }

pub loop-vertex-preserved : goal.loop-vertex-preserved
loop-vertex-preserved c =
    counts-next c.args.vertices.now c.args.locations c.loop-vertex.vertex-index none c.loop-vertex.counts c.count_function.new.counts c.loop-vertex-test.true
    (all-at (λ v. v.symbol.loc < c.args.locations) c.args.vertices.now c.loop-vertex.vertex-index none c.loop-vertex-test.true c.requires) c.loop-vertex.invariant c.count_function.ensures
