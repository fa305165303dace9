use Rattle.walk_search.proofs.Apart.{have-different}
use Rattle.walk_search.proofs.laws.simple_walks_have_different_vertices.Goals as goal

pub returns : goal.returns
returns c = have-different
