use Rattle.product_graph.proofs.Noting.{begun}
use Rattle.product_graph.proofs.search.begin.Goals as goal

pub returns : goal.returns
returns c = λ g on. begun g c.args.starts.now (record { vertices = c.in_ok-vertices.vertices; edges = c.new.result }) on c.in_ok-vertices.ensures c.new.ensures
