use Rattle.std.proofs.Common.{◌<◌, None, length}
use Rattle.product_graph.specs.declared.span.Vertex.{Vertex as ListedVertex}
use Rattle.product_graph.proofs.Lists.{all-at}
use Rattle.openflow_rules.proofs.Counting.{left-none}
use Rattle.openflow_rules.proofs.entries.entries_left.Goals as goal

abbrev none : ListedVertex
none = record { symbol = record { loc = 0; fun = None }; state = 0 }

pub returns-then-functions-left : goal.returns-then-functions-left
returns-then-functions-left c =
    left-none c.args.vertices.now c.loop-vertex.vertex-index none c.args.room c.loop-vertex.left _ c.loop-vertex-test.true (c.requires.counts.each _ (all-at (λ v. v.symbol.loc < length c.args.counts.now) c.args.vertices.now c.loop-vertex.vertex-index none c.loop-vertex-test.true c.requires.at)) c.loop-vertex.invariant c.if-functions-left.true
