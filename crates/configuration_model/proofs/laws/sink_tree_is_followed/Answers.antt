use Rattle.configuration_model.proofs.Sinks.{follows-at, at-follows, cut-follows}
use Rattle.configuration_model.proofs.laws.sink_tree_is_followed.Goals as goal

pub returns-clause-at : goal.returns-clause-at
returns-clause-at c net a d product next dest is tree = follows-at net a d dest product is next tree

pub returns-clause-all : goal.returns-clause-all
returns-clause-all c net a d product next dest is tree = at-follows net a d dest product is next tree

pub returns-clause-empty : goal.returns-clause-empty
returns-clause-empty c net a d product dest cut = cut-follows net a d dest product cut
