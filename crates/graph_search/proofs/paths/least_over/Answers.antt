use Rattle.graph_search.proofs.Settling.{ended}
use Rattle.graph_search.proofs.paths.least_over.Goals as goal

pub returns : goal.returns
returns c = ended c.args.vertices c.args.edges.now c.args.source c.in_ok-distance.ensures.0 c.in_ok-distance.field-0 c.in_ok-distance.ensures.1 c.in_ok-distance.ensures.2
