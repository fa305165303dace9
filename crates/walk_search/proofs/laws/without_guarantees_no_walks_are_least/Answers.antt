use Rattle.walk_search.proofs.Nothing.{nothing}
use Rattle.walk_search.proofs.laws.without_guarantees_no_walks_are_least.Goals as goal

pub returns : goal.returns
returns c = nothing
