use Rattle.localise.proofs.Summed.{shares_of_term}
use Rattle.localise.proofs.laws.shares_of_a_term_sum.Goals as goal

pub returns : goal.returns
returns c = shares_of_term c.shares_sum.ensures
