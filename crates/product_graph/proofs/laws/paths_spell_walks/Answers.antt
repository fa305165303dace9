use Rattle.product_graph.proofs.Walking.{path-walks, walk-paths}
use Rattle.product_graph.proofs.laws.paths_spell_walks.Goals as goal

pub returns-clause-walks : goal.returns-clause-walks
returns-clause-walks c = λ net a span product is dest edges path. path-walks net a span product is dest edges path

pub returns-clause-paths : goal.returns-clause-paths
returns-clause-paths c = λ net a span product is s rest source walk accepted turns. walk-paths net a span product is s rest source walk accepted turns
